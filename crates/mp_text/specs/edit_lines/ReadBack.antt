-- The line of an edit is read as the edit.
use Rattle.std.specs.Prelude.{◌≡◌, ℕ, ◌^◌, ◌<◌, true, List, length, map, All, Ok, IfSome}
use Rattle.mp_records.specs.declared.edit.Edit.{Edit}
use Rattle.mp_records.specs.declared.edit.Edit.TheVariants as edits
use Rattle.mp_records.specs.declared.new_bundle.NewBundle.{NewBundle}
use Rattle.mp_records.specs.declared.new_module.NewModule.{NewModule}
use Rattle.mp_records.specs.declared.port_names.InputName.{InputName}
use Rattle.mp_records.specs.declared.port_names.OutputName.{OutputName}
use Rattle.mp_records.specs.declared.single_edit.SingleEdit.{SingleEdit}
use Rattle.mp_records.specs.declared.single_edit.SingleEdit.TheVariants.{AddWire, RemoveWire, AddModule, RemoveModule, AddBundle, RemoveBundle, RewireInput, RewireOutput, SetInputDelay, SetDelay, SetStimulus, ClearStimulus}
use Rattle.mp_records.specs.Names.{is_name}
use Rattle.mp_netlist.specs.Circuit.{Circuit, IsCircuit}
use Rattle.mp_netlist.specs.Edits.{after}
use Rattle.mp_netlist.specs.Replays.{replay}
use Rattle.mp_text.specs.lexing.Lines.{lines_of}
use Rattle.mp_text.specs.ScriptLines.{line_at}
use Rattle.mp_text.specs.declared.script_line.Line.TheVariants.{Change}
use Rattle.mp_text.specs.edit_lines.EditLines.{single_text, edit_text, edit_lines}

-- a name that a thing may have
abbrev pub IsName : List ℕ → Type 0
IsName name = is_name name ≡ true

-- a number that can be stated
abbrev pub IsLow : ℕ → Type 0
IsLow number = number < 2 ^ 64

abbrev pub IsInputSaid : InputName → Type 0
IsInputSaid input = IsName input.wire × IsLow input.delay

abbrev pub IsOutputSaid : OutputName → Type 0
IsOutputSaid output = IfSome output.wire IsName × IsLow output.delay

-- a module with an input and an output
pub record IsModuleSaid (new : NewModule) : Type 0 where
  pub name : IsName new.name
  pub params : All IsLow new.params
  pub inputs : All IsInputSaid new.inputs
  pub outputs : All IsOutputSaid new.outputs
  pub some_inputs : 0 < length new.inputs
  pub some_outputs : 0 < length new.outputs

pub record IsBundleSaid (new : NewBundle) : Type 0 where
  pub name : IsName new.name
  pub request : IsName new.request
  pub acknowledge : IsName new.acknowledge
  pub payload : IsName new.payload
  pub setup : IsLow new.setup

-- an edit that a line can say: its names are names, and its numbers are below 2^64
abbrev pub IsSaid : SingleEdit → Type 0
IsSaid (AddWire name width level) = IsName name × IsLow width × IsLow level
IsSaid (RemoveWire wire) = IsName wire
IsSaid (AddModule new) = IsModuleSaid new
IsSaid (RemoveModule part) = IsName part
IsSaid (AddBundle new) = IsBundleSaid new
IsSaid (RemoveBundle bundle) = IsName bundle
IsSaid (RewireInput part port wire) = IsName part × IsLow port × IsName wire
IsSaid (RewireOutput part port wire) = IsName part × IsLow port × IfSome wire IsName
IsSaid (SetInputDelay part port delay) = IsName part × IsLow port × IsLow delay
IsSaid (SetDelay part port delay) = IsName part × IsLow port × IsLow delay
IsSaid (SetStimulus wire changes) = IsName wire × All (λ change. IsLow change.0 × IsLow change.1) changes
IsSaid (ClearStimulus wire) = IsName wire

-- a batch that a line can say has an edit
abbrev pub IsEditSaid : Edit → Type 0
IsEditSaid (edits.Single edit) = IsSaid edit
IsEditSaid (edits.Batch several) = (0 < length several) × All IsSaid several

-- what makes an edit of one thing is read as the edit
abbrev pub IsReadAsWritten : Type 0
IsReadAsWritten = (edit : SingleEdit) → IsSaid edit → line_at (single_text edit) ≡ Ok (Change (edits.Single edit))

-- the line of an edit, a batch too, is read as the edit
abbrev pub AreReadAsWritten : Type 0
AreReadAsWritten = (edit : Edit) → IsEditSaid edit → line_at (edit_text edit) ≡ Ok (Change edit)

-- a line can say each edit that a netlist accepts, and is read as that edit
abbrev pub AcceptedAreRead : Type 0
AcceptedAreRead = (n m : Circuit) → IsCircuit n → (edit : Edit) → after n edit ≡ Ok m → line_at (edit_text edit) ≡ Ok (Change edit)

-- the lines of edits that are accepted one after the other say just these edits
abbrev pub AreLinesOfEdits : Type 0
AreLinesOfEdits = (n m : Circuit) → IsCircuit n → (edits : List Edit) → replay n edits ≡ Ok m → map line_at (lines_of (edit_lines edits)) ≡ map (λ edit. Ok (Change edit)) edits
