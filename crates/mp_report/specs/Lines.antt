-- How findings are written.
use Rattle.std.specs.Prelude.{◌∷◌, ◌++◌}
use Rattle.mp_report.specs.Names.{flat_map, FindingCode, code_word, BundleRecord, Circuit, module_at, bundle_at, Place, Finding, findings, ℕ, List, [], Option, Some, None, codes, decimal, ModuleRecord, Module, Bundle}

-- a time, the kind and the name of a place, and the word of a code
abbrev pub placed_text : ℕ → List ℕ → List ℕ → FindingCode → List ℕ
placed_text t kind name code = decimal t ++ (kind ++ (name ++ (32 ∷ code_word code)))

-- what is told of a code that was found at what stands in a module's slot, and in a bundle's, and what ends it
abbrev pub module_text : Option ModuleRecord → ℕ → FindingCode → List ℕ → List ℕ
module_text None t code end = []
module_text (Some r) t code end = placed_text t (codes " module ") r.name code ++ end

abbrev pub bundle_text : Option BundleRecord → ℕ → FindingCode → List ℕ → List ℕ
bundle_text None t code end = []
bundle_text (Some b) t code end = placed_text t (codes " bundle ") b.name code ++ end

abbrev pub text_at : Circuit → Place → ℕ → FindingCode → List ℕ → List ℕ
text_at n (Module m) t code end = module_text (module_at n m.0) t code end
text_at n (Bundle b) t code end = bundle_text (bundle_at n b.0) t code end

-- what is told of a finding, before what ends it
abbrev pub finding_text : Circuit → Finding → List ℕ → List ℕ
finding_text n f end = text_at n f.place f.time f.code end

-- in a line of its own
abbrev pub finding_line : Circuit → Finding → List ℕ
finding_line n f = finding_text n f (10 ∷ [])

-- a line for each finding
abbrev pub finding_lines : Circuit → List Finding → List ℕ
finding_lines n found = flat_map (finding_line n) found

-- the report of a netlist
abbrev pub report_text : Circuit → List ℕ
report_text n = finding_lines n (findings n)
