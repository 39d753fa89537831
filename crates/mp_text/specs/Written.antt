-- How a netlist is written.
use Rattle.std.specs.Prelude.{◌∷◌, ◌++◌, ◌==◌, Bool, false, if◌then◌else◌}
use Rattle.std.specs.List.{list_any}
use Rattle.mp_text.specs.Names.{flat_map, word_of, WireId, WireRecord, ModuleRecord, BundleRecord, Input, Output, Circuit, wire_at, pair_text, Standard, Large, ℕ, List, [], map, Option, Some, None, codes, nat_le, decimal}
use Rattle.mp_netlist.specs.declared.format.Format.{Format as NetlistFormat}
use Rattle.mp_text.specs.Formats.{needs_fourth}
use Rattle.mp_text.specs.Limits.{max_first_horizon}

-- words, each behind a space
abbrev pub spaced : List (List ℕ) → List ℕ
spaced words = flat_map (λ word. 32 ∷ word) words

-- a first word, the words behind it, and a line feed
abbrev pub written_line : List ℕ → List (List ℕ) → List ℕ
written_line first words = first ++ (spaced words ++ (10 ∷ []))

-- the line of the form: 4 is that of a large netlist, and 2 one that a long horizon needs
abbrev pub format_line : NetlistFormat → ℕ → List ℕ
format_line Large horizon = written_line (codes "format") (codes "4" ∷ [])
format_line Standard horizon = if nat_le horizon max_first_horizon then [] else written_line (codes "format") (codes "2" ∷ [])

-- a module stands whose kind a text has only in the form 4
abbrev pub stands_fourth : Option ModuleRecord → Bool
stands_fourth None = false
stands_fourth (Some r) = needs_fourth r.kind

-- the format in which a netlist is written: that of large netlists also where a kind needs it
abbrev pub written_format : Circuit → NetlistFormat
written_format n = if list_any stands_fourth n.modules then Large else n.format

abbrev pub horizon_line : ℕ → List ℕ
horizon_line horizon = written_line (codes "horizon") (decimal horizon ∷ [])

-- the line of what stands in a wire's slot, and none where nothing does
abbrev pub wire_line : Option WireRecord → List ℕ
wire_line None = []
wire_line (Some r) = written_line (codes "wire") (r.name ∷ decimal r.width ∷ decimal r.initial ∷ [])

abbrev pub name_in : Option WireRecord → List ℕ
name_in None = []
name_in (Some r) = r.name

-- the name of the wire of this number
abbrev pub wire_name : Circuit → WireId → List ℕ
wire_name n wire = name_in (wire_at n wire.0)

-- the delay of an input, as `/4`, and nothing where there is none
abbrev pub delay_text : ℕ → List ℕ
delay_text delay = if delay == 0 then [] else 47 ∷ decimal delay

-- an input, as `a`, or with its delay, as `a/4`
abbrev pub input_text : Circuit → Input → List ℕ
input_text n input = wire_name n input.wire ++ delay_text input.delay

-- the name of the wire at an output, `-` where there is none
abbrev pub output_name : Circuit → Option WireId → List ℕ
output_name n None = codes "-"
output_name n (Some wire) = wire_name n wire

-- an output with its delay, as `y/3`
abbrev pub output_text : Circuit → Output → List ℕ
output_text n output = output_name n output.wire ++ (47 ∷ decimal output.delay)

abbrev pub module_line : Circuit → Option ModuleRecord → List ℕ
module_line n None = []
module_line n (Some r) =
    written_line (codes "module") (r.name ∷ word_of r.kind
    ∷ (map decimal r.params ++ (codes ":" ∷ (map (input_text n) r.inputs ++ (codes ">" ∷ map (output_text n) r.outputs)))))

abbrev pub stimulus_words : List ℕ → Option (List (ℕ × ℕ)) → List ℕ
stimulus_words name None = []
stimulus_words name (Some changes) = written_line (codes "stim") (name ∷ map pair_text changes)

-- the line of the stimulus of what stands in a wire's slot, if any
abbrev pub stimulus_line : Option WireRecord → List ℕ
stimulus_line None = []
stimulus_line (Some r) = stimulus_words r.name r.stimulus

abbrev pub bundle_line : Circuit → Option BundleRecord → List ℕ
bundle_line n None = []
bundle_line n (Some r) =
    written_line (codes "bundle") (r.name ∷ wire_name n r.request ∷ wire_name n r.acknowledge ∷ wire_name n r.payload ∷ decimal r.setup ∷ [])

-- the form where it is needed, the horizon, the wires, the modules, the stimuli by wire and the bundles, each by number
unfoldable pub written : Circuit → List ℕ
written n =
    format_line (written_format n) n.horizon
    ++ (horizon_line n.horizon
    ++ (flat_map wire_line n.wires
    ++ (flat_map (module_line n) n.modules
    ++ (flat_map stimulus_line n.wires
    ++ flat_map (bundle_line n) n.bundles))))
