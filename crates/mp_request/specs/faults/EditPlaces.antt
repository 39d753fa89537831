-- The word at fault in a line whose edit is refused.
use Rattle.std.specs.Prelude.{ℕ, ◌+◌, ◌==◌, ◌&&◌, ◌||◌, Bool, false, List, [], ◌∷◌, length, take, min, nat_lt, if◌then◌else◌, not, Option, Some, None, Result, Ok}
use Rattle.std.specs.List.{position_or_len, enumerate_from, list_any}
use Rattle.std.specs.Str.{bytes_eq}
use Rattle.mp_modules.specs.Kinds.{input_count, output_count, param_count, param_bound, input_width, output_width}
use Rattle.mp_modules.specs.Levels.{fits_width}
use Rattle.mp_modules.specs.declared.kind.Kind.{Kind}
use Rattle.mp_records.specs.declared.edit.Edit.TheVariants as edits
use Rattle.mp_records.specs.declared.edit_error.EditError.{EditError}
use Rattle.mp_records.specs.declared.edit_error.EditError.TheVariants.{NameTaken, BadName, NoSuchWire, BadWidth, BadLevel, BadDelay, WrongPorts, BadParam, WidthMismatch, AlreadyDriven, BadStimulus}
use Rattle.mp_netlist.specs.Circuit.{Circuit}
use Rattle.mp_netlist.specs.Edits.{stands, output_stands, output_fits, width_named, is_undriven, is_delay, is_input_delay, driven_names, new_width}
use Rattle.mp_text.specs.Names.{InputName, OutputName, NewModule, NewBundle, SingleEdit, AddWire, AddModule, AddBundle, SetStimulus}
use Rattle.mp_text.specs.declared.lexing.line_error.LineError.{LineError}
use Rattle.mp_text.specs.declared.script_line.Line.{Line as ScriptLine}
use Rattle.mp_text.specs.declared.script_line.Line.TheVariants.{Change}
use Rattle.mp_text.specs.ScriptLines.{line_at}
use Rattle.mp_request.specs.declared.faults.word_place.WordPlace.{WordPlace}
use Rattle.mp_request.specs.declared.faults.word_place.WordPlace.TheVariants.{Word, Param, Input, Output}
use Rattle.mp_request.specs.faults.WordPlaces.{port_place}

abbrev pub wire_place : EditError → WordPlace
wire_place BadName = Word 1
wire_place NameTaken = Word 1
wire_place BadWidth = Word 2
wire_place BadLevel = Word 3
wire_place error = Word 0

-- an input, if the inputs aren't as many as the kind has, and else an output: the first too many, or the one behind the last
abbrev pub uncounted_port : NewModule → WordPlace
uncounted_port new =
    if length new.inputs == input_count new.kind then Output (min (length new.outputs) (output_count new.kind))
    else Input (min (length new.inputs) (input_count new.kind))

abbrev pub missing_port : Circuit → NewModule → WordPlace
missing_port n new =
    port_place (length new.inputs) (position_or_len (λ (i : InputName). not (stands n i.wire)) new.inputs) (position_or_len (λ (o : OutputName). not (output_stands n o.wire)) new.outputs)

abbrev pub misfit_input : Circuit → Kind → ℕ → List InputName → ℕ
misfit_input n kind width inputs = position_or_len (λ (port : ℕ × InputName). not (width_named n port.1.wire == input_width kind width port.0)) (enumerate_from 0 inputs)

abbrev pub misfit_output : Circuit → Kind → ℕ → List OutputName → ℕ
misfit_output n kind width outputs = position_or_len (λ (port : ℕ × OutputName). not (output_fits n port.1.wire (output_width kind width port.0))) (enumerate_from 0 outputs)

abbrev pub misfit_port : Circuit → NewModule → WordPlace
misfit_port n new =
    port_place (length new.inputs) (misfit_input n new.kind (new_width n new.kind new.inputs) new.inputs) (misfit_output n new.kind (new_width n new.kind new.inputs) new.outputs)

-- a parameter out of its range or one too many, or the one behind the last
abbrev pub bad_param : Kind → ℕ → List ℕ → WordPlace
bad_param kind width params = Param (min (position_or_len (λ param. not (nat_lt param (param_bound kind width))) params) (param_count kind))

abbrev pub bad_delay : NewModule → WordPlace
bad_delay new =
    port_place (length new.inputs) (position_or_len (λ (i : InputName). not (is_input_delay i.delay)) new.inputs) (position_or_len (λ (o : OutputName). not (is_delay o.delay)) new.outputs)

-- the wire is driven already, or one of the outputs before names it
abbrev pub is_taken : Circuit → List OutputName → Option (List ℕ) → Bool
is_taken n before None = false
is_taken n before (Some name) = not (is_undriven n name) || list_any (bytes_eq name) (driven_names before)

abbrev pub taken_output : Circuit → List OutputName → ℕ
taken_output n outputs = position_or_len (λ (port : ℕ × OutputName). is_taken n (take port.0 outputs) port.1.wire) (enumerate_from 0 outputs)

abbrev pub module_place : Circuit → NewModule → EditError → WordPlace
module_place n new BadName = Word 1
module_place n new NameTaken = Word 1
module_place n new WrongPorts = uncounted_port new
module_place n new NoSuchWire = missing_port n new
module_place n new WidthMismatch = misfit_port n new
module_place n new BadParam = bad_param new.kind (new_width n new.kind new.inputs) new.params
module_place n new BadDelay = bad_delay new
module_place n new AlreadyDriven = Output (taken_output n new.outputs)
module_place n new error = Word 0

abbrev pub bundle_place : Circuit → NewBundle → EditError → WordPlace
bundle_place n new BadName = Word 1
bundle_place n new NameTaken = Word 1
bundle_place n new NoSuchWire = if stands n new.request then (if stands n new.acknowledge then Word 4 else Word 3) else Word 2
bundle_place n new WidthMismatch = if width_named n new.request == 1 then Word 3 else Word 2
bundle_place n new BadParam = Word 5
bundle_place n new error = Word 0

-- a change's time is above the one before and below the horizon, and its value fits
abbrev pub is_good : ℕ → ℕ → ℕ → ℕ × ℕ → Bool
is_good horizon width before change = nat_lt before change.0 && nat_lt change.0 horizon && fits_width width change.1

-- how many changes stand before the first whose time isn't above the one before and below the horizon, or whose value doesn't fit
unfoldable pub good_changes : ℕ → ℕ → ℕ → List (ℕ × ℕ) → ℕ
good_changes horizon width before [] = 0
good_changes horizon width before (change ∷ changes) =
    if is_good horizon width before change then good_changes horizon width change.0 changes + 1 else 0

abbrev pub stimulus_place : Circuit → List ℕ → List (ℕ × ℕ) → EditError → WordPlace
stimulus_place n wire changes NoSuchWire = Word 1
stimulus_place n wire changes AlreadyDriven = Word 1
stimulus_place n wire changes BadStimulus = Word (2 + good_changes n.horizon (width_named n wire) 0 changes)
stimulus_place n wire changes error = Word 0

abbrev pub edit_place : Circuit → SingleEdit → EditError → WordPlace
edit_place n (AddWire name width level) error = wire_place error
edit_place n (AddModule new) error = module_place n new error
edit_place n (AddBundle new) error = bundle_place n new error
edit_place n (SetStimulus wire changes) error = stimulus_place n wire changes error
edit_place n edit error = Word 0

abbrev pub edit_in : Result ScriptLine LineError → Option SingleEdit
edit_in (Ok (Change (edits.Single edit))) = Some edit
edit_in read = None

-- the edit that a line states, where it states one
abbrev pub edit_at : List ℕ → Option SingleEdit
edit_at line = edit_in (line_at line)

abbrev pub refusal_place : Option Circuit → Option SingleEdit → EditError → WordPlace
refusal_place (Some n) (Some edit) error = edit_place n edit error
refusal_place n edit error = Word 0
