-- What an edit does to a netlist.
use Rattle.std.specs.Prelude.{◌≡◌, ◌⊎◌, IsTrue, ℕ, ◌+◌, Bool, true, not, ◌&&◌, ◌==◌, List, [], ◌∷◌, ◌++◌, length, map, Option, Some, None, is_none, is_some, unwrap_or, option_map, Result, Ok, Err, is_ok, nat_lt, nat_le, if◌then◌else◌, slice_set, option_and_then}
use Rattle.std.specs.List.{list_all, list_any, filter_map, enumerate_from}
use Rattle.std.specs.Str.{bytes_eq}
use Rattle.mp_modules.specs.declared.kind.Kind.{Kind}
use Rattle.mp_modules.specs.Kinds.{input_count, output_count, width_from, input_width, output_width, are_params}
use Rattle.mp_records.specs.declared.ids.WireId.{WireId}
use Rattle.mp_records.specs.declared.ids.ModuleId.{ModuleId}
use Rattle.mp_records.specs.declared.ids.BundleId.{BundleId}
use Rattle.mp_records.specs.declared.wire_record.WireRecord.{WireRecord}
use Rattle.mp_records.specs.declared.module_record.ModuleRecord.{ModuleRecord}
use Rattle.mp_records.specs.declared.bundle_record.BundleRecord.{BundleRecord}
use Rattle.mp_records.specs.declared.ports.Input.{Input}
use Rattle.mp_records.specs.declared.ports.Output.{Output}
use Rattle.mp_records.specs.declared.port_names.InputName.{InputName}
use Rattle.mp_records.specs.declared.port_names.OutputName.{OutputName}
use Rattle.mp_records.specs.declared.new_module.NewModule.{NewModule}
use Rattle.mp_records.specs.declared.new_bundle.NewBundle.{NewBundle}
use Rattle.mp_records.specs.declared.edit.Edit.{Edit}
use Rattle.mp_records.specs.declared.edit.Edit.TheVariants.{Single, Batch}
use Rattle.mp_records.specs.declared.single_edit.SingleEdit.{SingleEdit}
use Rattle.mp_records.specs.declared.single_edit.SingleEdit.TheVariants.{AddWire, RemoveWire, AddModule, RemoveModule, AddBundle, RemoveBundle, RewireInput, RewireOutput, SetInputDelay, SetDelay, SetStimulus, ClearStimulus}
use Rattle.mp_records.specs.declared.edit_error.EditError.{EditError}
use Rattle.mp_records.specs.declared.edit_error.EditError.TheVariants.{NameTaken, BadName, NoSuchWire, NoSuchModule, NoSuchBundle, BadWidth, BadLevel, BadDelay, BadPort, WrongPorts, BadParam, WidthMismatch, AlreadyDriven, StillUsed, BadStimulus, NoStimulus, TableFull, OutOfMemory, BadBatch, InBatch}
use Rattle.mp_records.specs.EditErrors.{number_of}
use Rattle.mp_records.specs.Names.{is_name}
use Rattle.mp_records.specs.Stimuli.{is_stimulus}
use Rattle.mp_modules.specs.Levels.{fits_width}
use Rattle.mp_records.specs.PortChanges.{with_input, with_input_delay, with_output, with_delay}
use Rattle.mp_netlist.specs.Limits.{wire_limit, module_limit, bundle_limit, max_delay, max_setup, max_batch}
use Rattle.mp_netlist.specs.Circuit.{Circuit, wire_at, module_at, wire_named, module_named, bundle_named, width_of, module_width, stimulus_at}
use Rattle.mp_netlist.specs.Drivers.{driver, is_port, is_nothing, is_free_for}
use Rattle.mp_netlist.specs.Uses.{is_used}

-- the error of the first check that fails
abbrev pub first_failing : List (Bool × EditError) → Option EditError
first_failing [] = None
first_failing (check ∷ checks) = if check.0 then first_failing checks else Some check.1

abbrev pub is_width : ℕ → Bool
is_width width = nat_le 1 width && nat_le width 64

-- a delay that an output may have
abbrev pub is_delay : ℕ → Bool
is_delay delay = nat_le 1 delay && nat_le delay max_delay

-- a delay that an input may have
abbrev pub is_input_delay : ℕ → Bool
is_input_delay delay = nat_le delay max_delay

-- whether a wire of the name stands
abbrev pub stands : Circuit → List ℕ → Bool
stands n name = is_some (wire_named n name)

-- the number of the wire that has the name
abbrev pub wire_id : Circuit → List ℕ → WireId
wire_id n name = record { 0 = unwrap_or (wire_named n name) 0 }

-- whether a module of the name stands
abbrev pub module_stands : Circuit → List ℕ → Bool
module_stands n name = is_some (module_named n name)

-- the number of the module that has the name
abbrev pub module_id : Circuit → List ℕ → ModuleId
module_id n name = record { 0 = unwrap_or (module_named n name) 0 }

-- the module that has the name
abbrev pub module_of : Circuit → List ℕ → Option ModuleRecord
module_of n name = option_and_then (module_at n) (module_named n name)

-- whether a bundle of the name stands
abbrev pub bundle_stands : Circuit → List ℕ → Bool
bundle_stands n name = is_some (bundle_named n name)

-- the number of the bundle that has the name
abbrev pub bundle_id : Circuit → List ℕ → BundleId
bundle_id n name = record { 0 = unwrap_or (bundle_named n name) 0 }

-- how many input ports a module has
abbrev pub input_ports : Option ModuleRecord → ℕ
input_ports None = 0
input_ports (Some r) = length r.inputs

-- how many output ports a module has
abbrev pub output_ports : Option ModuleRecord → ℕ
output_ports None = 0
output_ports (Some r) = length r.outputs

-- the width of an input port of a module
abbrev pub input_width_of : Circuit → Option ModuleRecord → ℕ → ℕ
input_width_of n None port = 0
input_width_of n (Some r) port = input_width r.kind (module_width n r) port

-- the width of an output port of a module
abbrev pub output_width_of : Circuit → Option ModuleRecord → ℕ → ℕ
output_width_of n None port = 0
output_width_of n (Some r) port = output_width r.kind (module_width n r) port

-- the width of the wire that has the name
abbrev pub width_named : Circuit → List ℕ → ℕ
width_named n name = width_of (option_and_then (wire_at n) (wire_named n name))

-- nothing drives the wire that has the name
abbrev pub is_undriven : Circuit → List ℕ → Bool
is_undriven n name = is_nothing (driver n (wire_id n name).0)

-- a wire that is to be driven stands, if any is named
abbrev pub output_stands : Circuit → Option (List ℕ) → Bool
output_stands n None = true
output_stands n (Some name) = stands n name

-- a wire that is to be driven by this port of this module has no other driver, if any is named
abbrev pub output_is_free : Circuit → ℕ → ℕ → Option (List ℕ) → Bool
output_is_free n m port None = true
output_is_free n m port (Some name) = is_free_for m port (driver n (wire_id n name).0)

-- the names of the wires that the outputs drive
abbrev pub driven_names : List OutputName → List (List ℕ)
driven_names outputs = filter_map (λ (o : OutputName). o.wire) outputs

-- no two of the names are the same
abbrev pub are_distinct : List (List ℕ) → Bool
are_distinct [] = true
are_distinct (name ∷ names) = not (list_any (bytes_eq name) names) && are_distinct names

-- the width of the wire at the first input
abbrev pub first_width : Circuit → List InputName → ℕ
first_width n [] = 0
first_width n (first ∷ others) = width_named n first.wire

-- the width of a module with these inputs, from that of the wire at the first
abbrev pub new_width : Circuit → Kind → List InputName → ℕ
new_width n kind inputs = width_from kind (first_width n inputs)

-- each wire that is to be read has the width of its port
abbrev pub inputs_fit : Circuit → Kind → ℕ → List InputName → Bool
inputs_fit n kind width inputs =
    list_all (λ (port : ℕ × InputName). width_named n port.1.wire == input_width kind width port.0) (enumerate_from 0 inputs)

abbrev pub output_fits : Circuit → Option (List ℕ) → ℕ → Bool
output_fits n None width = true
output_fits n (Some name) width = width_named n name == width

-- each wire that is to be driven has the width of its port
abbrev pub outputs_fit : Circuit → Kind → ℕ → List OutputName → Bool
outputs_fit n kind width outputs =
    list_all (λ (port : ℕ × OutputName). output_fits n port.1.wire (output_width kind width port.0)) (enumerate_from 0 outputs)

-- each wire that is to be read stands
abbrev pub inputs_stand : Circuit → List InputName → Bool
inputs_stand n inputs = list_all (λ (i : InputName). stands n i.wire) inputs

-- each port has a delay that it may have
abbrev pub delays_fit : List InputName → List OutputName → Bool
delays_fit inputs outputs =
    list_all (λ (i : InputName). is_input_delay i.delay) inputs && list_all (λ (o : OutputName). is_delay o.delay) outputs

-- the checks of a new wire, in order
abbrev pub wire_checks : Circuit → List ℕ → ℕ → ℕ → List (Bool × EditError)
wire_checks n name width level =
    (is_name name, BadName)
    ∷ (is_none (wire_named n name), NameTaken)
    ∷ (is_width width, BadWidth)
    ∷ (fits_width width level, BadLevel)
    ∷ (nat_lt (length n.wires) (wire_limit n.format), TableFull)
    ∷ []

abbrev pub wire_refusal : Circuit → List ℕ → ℕ → ℕ → Option EditError
wire_refusal n name width level = first_failing (wire_checks n name width level)

-- the checks before a wire goes, in order
abbrev pub wire_removal_checks : Circuit → List ℕ → List (Bool × EditError)
wire_removal_checks n name =
    (stands n name, NoSuchWire)
    ∷ (not (is_used n (wire_id n name).0), StillUsed)
    ∷ []

abbrev pub wire_removal_refusal : Circuit → List ℕ → Option EditError
wire_removal_refusal n name = first_failing (wire_removal_checks n name)

-- the checks of a new module, in order
abbrev pub module_checks : Circuit → NewModule → List (Bool × EditError)
module_checks n new =
    (is_name new.name, BadName)
    ∷ (is_none (module_named n new.name), NameTaken)
    ∷ (length new.inputs == input_count new.kind && length new.outputs == output_count new.kind, WrongPorts)
    ∷ (inputs_stand n new.inputs && list_all (stands n) (driven_names new.outputs), NoSuchWire)
    ∷ (inputs_fit n new.kind (new_width n new.kind new.inputs) new.inputs && outputs_fit n new.kind (new_width n new.kind new.inputs) new.outputs, WidthMismatch)
    ∷ (are_params new.kind (new_width n new.kind new.inputs) new.params, BadParam)
    ∷ (delays_fit new.inputs new.outputs, BadDelay)
    ∷ (list_all (is_undriven n) (driven_names new.outputs) && are_distinct (driven_names new.outputs), AlreadyDriven)
    ∷ (nat_lt (length n.modules) (module_limit n.format), TableFull)
    ∷ []

abbrev pub module_refusal : Circuit → NewModule → Option EditError
module_refusal n new = first_failing (module_checks n new)

-- the checks before a module goes
abbrev pub module_removal_checks : Circuit → List ℕ → List (Bool × EditError)
module_removal_checks n name = (module_stands n name, NoSuchModule) ∷ []

abbrev pub module_removal_refusal : Circuit → List ℕ → Option EditError
module_removal_refusal n name = first_failing (module_removal_checks n name)

-- the checks of a new bundle, in order
abbrev pub bundle_checks : Circuit → NewBundle → List (Bool × EditError)
bundle_checks n new =
    (is_name new.name, BadName)
    ∷ (is_none (bundle_named n new.name), NameTaken)
    ∷ (stands n new.request && stands n new.acknowledge && stands n new.payload, NoSuchWire)
    ∷ (width_named n new.request == 1 && width_named n new.acknowledge == 1, WidthMismatch)
    ∷ (nat_le new.setup max_setup, BadParam)
    ∷ (nat_lt (length n.bundles) (bundle_limit n.format), TableFull)
    ∷ []

abbrev pub bundle_refusal : Circuit → NewBundle → Option EditError
bundle_refusal n new = first_failing (bundle_checks n new)

-- the checks before a bundle goes
abbrev pub bundle_removal_checks : Circuit → List ℕ → List (Bool × EditError)
bundle_removal_checks n name = (bundle_stands n name, NoSuchBundle) ∷ []

abbrev pub bundle_removal_refusal : Circuit → List ℕ → Option EditError
bundle_removal_refusal n name = first_failing (bundle_removal_checks n name)

-- the checks of an input's new wire, in order
abbrev pub input_checks : Circuit → List ℕ → ℕ → List ℕ → List (Bool × EditError)
input_checks n name port wire =
    (module_stands n name, NoSuchModule)
    ∷ (nat_lt port (input_ports (module_of n name)), BadPort)
    ∷ (stands n wire, NoSuchWire)
    ∷ (width_named n wire == input_width_of n (module_of n name) port, WidthMismatch)
    ∷ []

abbrev pub input_refusal : Circuit → List ℕ → ℕ → List ℕ → Option EditError
input_refusal n name port wire = first_failing (input_checks n name port wire)

-- the checks of an output's new wire, in order
abbrev pub output_checks : Circuit → List ℕ → ℕ → Option (List ℕ) → List (Bool × EditError)
output_checks n name port wire =
    (module_stands n name, NoSuchModule)
    ∷ (nat_lt port (output_ports (module_of n name)), BadPort)
    ∷ (output_stands n wire, NoSuchWire)
    ∷ (output_fits n wire (output_width_of n (module_of n name) port), WidthMismatch)
    ∷ (output_is_free n (module_id n name).0 port wire, AlreadyDriven)
    ∷ []

abbrev pub output_refusal : Circuit → List ℕ → ℕ → Option (List ℕ) → Option EditError
output_refusal n name port wire = first_failing (output_checks n name port wire)

-- the checks of an input's new delay, in order
abbrev pub input_delay_checks : Circuit → List ℕ → ℕ → ℕ → List (Bool × EditError)
input_delay_checks n name port delay =
    (module_stands n name, NoSuchModule)
    ∷ (nat_lt port (input_ports (module_of n name)), BadPort)
    ∷ (is_input_delay delay, BadDelay)
    ∷ []

abbrev pub input_delay_refusal : Circuit → List ℕ → ℕ → ℕ → Option EditError
input_delay_refusal n name port delay = first_failing (input_delay_checks n name port delay)

-- the checks of an output's new delay, in order
abbrev pub delay_checks : Circuit → List ℕ → ℕ → ℕ → List (Bool × EditError)
delay_checks n name port delay =
    (module_stands n name, NoSuchModule)
    ∷ (nat_lt port (output_ports (module_of n name)), BadPort)
    ∷ (is_delay delay, BadDelay)
    ∷ []

abbrev pub delay_refusal : Circuit → List ℕ → ℕ → ℕ → Option EditError
delay_refusal n name port delay = first_failing (delay_checks n name port delay)

-- the checks of a stimulus, in order
abbrev pub stimulus_checks : Circuit → List ℕ → List (ℕ × ℕ) → List (Bool × EditError)
stimulus_checks n name changes =
    (stands n name, NoSuchWire)
    ∷ (not (is_port (driver n (wire_id n name).0)), AlreadyDriven)
    ∷ (is_stimulus n.horizon (width_named n name) 0 changes, BadStimulus)
    ∷ []

abbrev pub stimulus_refusal : Circuit → List ℕ → List (ℕ × ℕ) → Option EditError
stimulus_refusal n name changes = first_failing (stimulus_checks n name changes)

-- the checks before a stimulus goes, in order
abbrev pub clearing_checks : Circuit → List ℕ → List (Bool × EditError)
clearing_checks n name =
    (stands n name, NoSuchWire)
    ∷ (is_some (stimulus_at n (wire_id n name).0), NoStimulus)
    ∷ []

abbrev pub clearing_refusal : Circuit → List ℕ → Option EditError
clearing_refusal n name = first_failing (clearing_checks n name)

-- the first check that the edit fails
unfoldable pub refusal : Circuit → SingleEdit → Option EditError
refusal n (AddWire name width level) = wire_refusal n name width level
refusal n (RemoveWire name) = wire_removal_refusal n name
refusal n (AddModule new) = module_refusal n new
refusal n (RemoveModule name) = module_removal_refusal n name
refusal n (AddBundle new) = bundle_refusal n new
refusal n (RemoveBundle name) = bundle_removal_refusal n name
refusal n (RewireInput name port wire) = input_refusal n name port wire
refusal n (RewireOutput name port wire) = output_refusal n name port wire
refusal n (SetInputDelay name port delay) = input_delay_refusal n name port delay
refusal n (SetDelay name port delay) = delay_refusal n name port delay
refusal n (SetStimulus name changes) = stimulus_refusal n name changes
refusal n (ClearStimulus name) = clearing_refusal n name

-- a batch has 1 to 256 edits
abbrev pub is_batch : List SingleEdit → Bool
is_batch edits = nat_le 1 (length edits) && nat_le (length edits) max_batch

-- the check of a batch before its edits are made
abbrev pub batch_checks : List SingleEdit → List (Bool × EditError)
batch_checks edits = (is_batch edits, BadBatch) ∷ []

-- the first check that fails before anything is made: a batch's edits are judged as they are made
abbrev pub checked : Circuit → Edit → Option EditError
checked n (Single edit) = refusal n edit
checked n (Batch edits) = first_failing (batch_checks edits)

abbrev pub with_wire_record : Circuit → WireRecord → Circuit
with_wire_record n r = record n { wires = n.wires ++ Some r ∷ [] }

abbrev pub with_new_wire : Circuit → List ℕ → ℕ → ℕ → Circuit
with_new_wire n name width level = with_wire_record n (record { name = name; width = width; initial = level; stimulus = None })

-- an input port at the wire that has the name
abbrev pub input_of : Circuit → InputName → Input
input_of n i = record { wire = wire_id n i.wire; delay = i.delay }

-- an output port at the wire that has the name, if any
abbrev pub output_of : Circuit → OutputName → Output
output_of n o = record { wire = option_map (wire_id n) o.wire; delay = o.delay }

abbrev pub new_module : Circuit → NewModule → ModuleRecord
new_module n new =
    record { name = new.name; kind = new.kind; params = new.params; inputs = map (input_of n) new.inputs; outputs = map (output_of n) new.outputs }

abbrev pub with_new_module : Circuit → ModuleRecord → Circuit
with_new_module n r = record n { modules = n.modules ++ Some r ∷ [] }

abbrev pub with_stimulus : List (ℕ × ℕ) → WireRecord → WireRecord
with_stimulus changes wire = record wire { stimulus = Some changes }

abbrev pub without_stimulus : WireRecord → WireRecord
without_stimulus wire = record wire { stimulus = None }

-- the netlist with something else in a wire's slot
abbrev pub with_wire : Circuit → ℕ → Option WireRecord → Circuit
with_wire n w wire = record n { wires = slice_set n.wires w wire }

abbrev pub new_bundle : Circuit → NewBundle → BundleRecord
new_bundle n new =
    record {
      name = new.name;
      request = wire_id n new.request;
      acknowledge = wire_id n new.acknowledge;
      payload = wire_id n new.payload;
      setup = new.setup;
    }

abbrev pub with_new_bundle : Circuit → BundleRecord → Circuit
with_new_bundle n r = record n { bundles = n.bundles ++ Some r ∷ [] }

-- the netlist with something else in a bundle's slot
abbrev pub with_bundle : Circuit → ℕ → Option BundleRecord → Circuit
with_bundle n b bundle = record n { bundles = slice_set n.bundles b bundle }

-- the netlist with something else in a module's slot
abbrev pub with_module : Circuit → ℕ → Option ModuleRecord → Circuit
with_module n m part = record n { modules = slice_set n.modules m part }

-- the netlist after an edit that no check refuses
unfoldable pub edited : Circuit → SingleEdit → Circuit
edited n (AddWire name width level) = with_new_wire n name width level
edited n (RemoveWire name) = with_wire n (wire_id n name).0 None
edited n (AddModule new) = with_new_module n (new_module n new)
edited n (RemoveModule name) = with_module n (module_id n name).0 None
edited n (AddBundle new) = with_new_bundle n (new_bundle n new)
edited n (RemoveBundle name) = with_bundle n (bundle_id n name).0 None
edited n (RewireInput name port wire) =
    with_module n (module_id n name).0 (option_map (with_input port (wire_id n wire)) (module_at n (module_id n name).0))
edited n (RewireOutput name port wire) =
    with_module n (module_id n name).0 (option_map (with_output port (option_map (wire_id n) wire)) (module_at n (module_id n name).0))
edited n (SetInputDelay name port delay) =
    with_module n (module_id n name).0 (option_map (with_input_delay port delay) (module_at n (module_id n name).0))
edited n (SetDelay name port delay) =
    with_module n (module_id n name).0 (option_map (with_delay port delay) (module_at n (module_id n name).0))
edited n (SetStimulus name changes) =
    with_wire n (wire_id n name).0 (option_map (with_stimulus changes) (wire_at n (wire_id n name).0))
edited n (ClearStimulus name) =
    with_wire n (wire_id n name).0 (option_map without_stimulus (wire_at n (wire_id n name).0))

abbrev pub unless : Option EditError → Circuit → Result Circuit EditError
unless None n = Ok n
unless (Some error) n = Err error

-- the netlist after an edit of one thing, or the first check that fails
abbrev pub after_single : Circuit → SingleEdit → Result Circuit EditError
after_single n edit = unless (refusal n edit) (edited n edit)

-- goes on with what is next where the netlist stands
abbrev pub go_on : (Circuit → Result Circuit EditError) → Result Circuit EditError → Result Circuit EditError
go_on next (Ok n) = next n
go_on next (Err error) = Err error

-- a batch is refused for the edit in this place, where that is refused
abbrev pub in_place : ℕ → Result Circuit EditError → Result Circuit EditError
in_place place (Ok n) = Ok n
in_place place (Err error) = Err (InBatch place (number_of error))

-- the netlist after the edits of a batch from this place on, each made on the netlist after those before it
abbrev pub after_each : ℕ → Circuit → List SingleEdit → Result Circuit EditError
after_each place n [] = Ok n
after_each place n (edit ∷ edits) = go_on (λ next. after_each (place + 1) next edits) (in_place place (after_single n edit))

-- the netlist after the edit, or why it is refused
abbrev pub after : Circuit → Edit → Result Circuit EditError
after n (Single edit) = after_single n edit
after n (Batch edits) = if is_batch edits then after_each 1 n edits else Err BadBatch

-- want of memory may come in place of the answer: where an edit of one thing is accepted, and for a batch that is one whatever its edits meet
abbrev pub may_want : {T : Type 0} → Edit → Result T EditError → Bool
may_want (Single edit) judged = is_ok judged
may_want (Batch edits) judged = is_batch edits

-- an edit was refused: as it is judged, or for want of memory where that may come
abbrev pub RefusedBy : {T : Type 0} → Edit → Result T EditError → EditError → Type 0
RefusedBy edit judged error = (judged ≡ Err error) ⊎ ((error ≡ OutOfMemory) × IsTrue (may_want edit judged))
