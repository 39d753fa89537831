-- What is written is read again.
use Rattle.std.specs.Prelude.{◌≡◌, ◌≤◌, ◌∷◌, ◌++◌}
use Rattle.mp_text.specs.Names.{flat_map, filter_map, WireRecord, ModuleRecord, BundleRecord, Input, Output, InputName, OutputName, SingleEdit, AddWire, AddModule, AddBundle, SetStimulus, Circuit, IsCircuit, ℕ, List, [], length, map, Option, Some, None, Ok, option_map, NewModule, NewBundle}
use Rattle.mp_text.specs.Sizes.{text_limit}
use Rattle.mp_text.specs.Texts.{text_at}
use Rattle.mp_text.specs.Written.{written, written_format, wire_name}

-- the edit for what stands in a slot, and none where nothing does
abbrev pub edit_for : {R : Type 0} → (R → SingleEdit) → Option R → List SingleEdit
edit_for edit None = []
edit_for edit (Some r) = edit r ∷ []

abbrev pub wire_edits : Option WireRecord → List SingleEdit
wire_edits = edit_for (λ r. AddWire r.name r.width r.initial)

-- an input with its wire's name
abbrev pub input_by_name : Circuit → Input → InputName
input_by_name n input = record { wire = wire_name n input.wire; delay = input.delay }

-- an output with its wire's name
abbrev pub output_by_name : Circuit → Output → OutputName
output_by_name n output = record { wire = option_map (wire_name n) output.wire; delay = output.delay }

-- a module with its wires' names
abbrev pub module_by_name : Circuit → ModuleRecord → NewModule
module_by_name n r =
    record { name = r.name; kind = r.kind; params = r.params; inputs = map (input_by_name n) r.inputs; outputs = map (output_by_name n) r.outputs }

abbrev pub added_module : Circuit → ModuleRecord → SingleEdit
added_module n r = AddModule (module_by_name n r)

abbrev pub module_edits : Circuit → Option ModuleRecord → List SingleEdit
module_edits n = edit_for (added_module n)

abbrev pub set_edits : List ℕ → Option (List (ℕ × ℕ)) → List SingleEdit
set_edits name = edit_for (SetStimulus name)

-- the edit that sets the stimulus of what stands in a wire's slot, if any
abbrev pub stimulus_edits : Option WireRecord → List SingleEdit
stimulus_edits None = []
stimulus_edits (Some r) = set_edits r.name r.stimulus

-- a bundle with its wires' names
abbrev pub bundle_by_name : Circuit → BundleRecord → NewBundle
bundle_by_name n r =
    record {
      name = r.name;
      request = wire_name n r.request;
      acknowledge = wire_name n r.acknowledge;
      payload = wire_name n r.payload;
      setup = r.setup;
    }

abbrev pub added_bundle : Circuit → BundleRecord → SingleEdit
added_bundle n r = AddBundle (bundle_by_name n r)

abbrev pub bundle_edits : Circuit → Option BundleRecord → List SingleEdit
bundle_edits n = edit_for (added_bundle n)

-- the edits that add the records of a netlist by name: wires, modules, stimuli by wire and bundles, each by number
abbrev pub edits_by_name : Circuit → List SingleEdit
edits_by_name n = flat_map wire_edits n.wires ++ (flat_map (module_edits n) n.modules ++ (flat_map stimulus_edits n.wires ++ flat_map (bundle_edits n) n.bundles))

-- the things that stand, by number
abbrev pub standing : {R : Type 0} → List (Option R) → List R
standing slots = filter_map (λ slot. slot) slots

-- the format in which it is written, the same horizon, the same wires with what is set on them, and the same modules and bundles with the names of their wires, each in order of number
pub record SameRecords (n m : Circuit) : Type 0 where
  pub format : m.format ≡ written_format n
  pub horizon : m.horizon ≡ n.horizon
  pub wires : standing m.wires ≡ standing n.wires
  pub modules : flat_map (module_edits m) m.modules ≡ flat_map (module_edits n) n.modules
  pub bundles : flat_map (bundle_edits m) m.bundles ≡ flat_map (bundle_edits n) n.bundles

-- the text is read as a netlist with the same records
abbrev pub IsReadAs : List ℕ → Circuit → Type 0
IsReadAs text n = (m : Circuit) × (text_at text ≡ Ok m) × SameRecords n m

-- the text of a netlist is read as a netlist with the same records
abbrev pub IsReadAsWritten : Type 0
IsReadAsWritten = (n : Circuit) → IsCircuit n → length (written n) ≤ text_limit (written n) → IsReadAs (written n) n
