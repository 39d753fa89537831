-- The wires and modules that an edit names.
use Rattle.std.specs.Prelude.{◌≡◌, ℕ, ◌<◌, List, [], ◌∷◌, Option, Some, None, Ok, length}
use Rattle.std.specs.List.{Contains}
use Rattle.mp_records.specs.declared.wire_record.WireRecord.{WireRecord}
use Rattle.mp_records.specs.declared.module_record.ModuleRecord.{ModuleRecord}
use Rattle.mp_records.specs.declared.edit.Edit.{Edit}
use Rattle.mp_records.specs.declared.edit.Edit.TheVariants.{Single, Batch}
use Rattle.mp_records.specs.declared.single_edit.SingleEdit.{SingleEdit}
use Rattle.mp_records.specs.declared.single_edit.SingleEdit.TheVariants.{RemoveWire, RemoveModule, RewireInput, RewireOutput, SetInputDelay, SetDelay, SetStimulus, ClearStimulus}
use Rattle.mp_netlist.specs.Circuit.{Circuit, wire_at, module_at}
use Rattle.mp_netlist.specs.Edits.{after}

-- the name of the wire that an edit of one thing removes, or whose stimulus it changes
abbrev pub wire_changed_by : SingleEdit → Option (List ℕ)
wire_changed_by (RemoveWire name) = Some name
wire_changed_by (SetStimulus name changes) = Some name
wire_changed_by (ClearStimulus name) = Some name
wire_changed_by _ = None

-- the name of the module that an edit of one thing removes, or whose ports it changes
abbrev pub module_changed_by : SingleEdit → Option (List ℕ)
module_changed_by (RemoveModule name) = Some name
module_changed_by (RewireInput name port wire) = Some name
module_changed_by (RewireOutput name port wire) = Some name
module_changed_by (SetInputDelay name port delay) = Some name
module_changed_by (SetDelay name port delay) = Some name
module_changed_by _ = None

-- the edits of one thing that an edit consists of
abbrev pub edits_in : Edit → List SingleEdit
edits_in (Single edit) = edit ∷ []
edits_in (Batch edits) = edits

-- one of the edits changes or removes the wire of this name
pub record IsWireNamed (edits : List SingleEdit) (name : List ℕ) : Type 0 where
  pub edit : SingleEdit
  pub listed : Contains edits edit
  pub names : wire_changed_by edit ≡ Some name

-- one of the edits changes or removes the module of this name
pub record IsModuleNamed (edits : List SingleEdit) (name : List ℕ) : Type 0 where
  pub edit : SingleEdit
  pub listed : Contains edits edit
  pub names : module_changed_by edit ≡ Some name

-- a slot of a wire stays as it is, unless an edit names what stands in it
abbrev pub UnnamedWiresStay : Type 0
UnnamedWiresStay = (old new : Circuit) (edit : Edit) → after old edit ≡ Ok new → (w : ℕ) → w < length old.wires →
    ((r : WireRecord) → wire_at old w ≡ Some r → IsWireNamed (edits_in edit) r.name → ⊥) → wire_at new w ≡ wire_at old w

-- and so does a slot of a module
abbrev pub UnnamedModulesStay : Type 0
UnnamedModulesStay = (old new : Circuit) (edit : Edit) → after old edit ≡ Ok new → (m : ℕ) → m < length old.modules →
    ((r : ModuleRecord) → module_at old m ≡ Some r → IsModuleNamed (edits_in edit) r.name → ⊥) → module_at new m ≡ module_at old m
