-- The ports of a module that is to be added, at the wires that it names.
use Rattle.std.specs.Prelude.{◌≡◌, ℕ, ◌+◌, Bool, true, ◌==◌, IsTrue, List, [], ◌∷◌, map, Option, Some, None, option_map, min}
use Rattle.std.specs.List.{list_all}
use Rattle.mp_modules.specs.declared.kind.Kind.{Kind}
use Rattle.mp_modules.specs.Kinds.{input_width, output_width}
use Rattle.mp_records.specs.declared.ids.WireId.{WireId}
use Rattle.mp_records.specs.declared.new_module.NewModule.{NewModule}
use Rattle.mp_records.specs.declared.port_names.InputName.{InputName}
use Rattle.mp_records.specs.declared.port_names.OutputName.{OutputName}
use Rattle.mp_records.specs.declared.ports.Input.{Input}
use Rattle.mp_records.specs.declared.ports.Output.{Output}
use Rattle.mp_netlist.specs.declared.netlist.new_ports.NewPorts.{NewPorts}
use Rattle.mp_netlist.specs.Limits.{max_delay}
use Rattle.mp_netlist.specs.Circuit.{Circuit, wire_at, width_of}
use Rattle.mp_netlist.specs.Drivers.{driver, is_nothing}
use Rattle.mp_netlist.specs.Edits.{wire_id, stands, inputs_stand, driven_names}

-- a delay, where a port may have it, and else one that no port may have
abbrev pub kept_delay : ℕ → ℕ
kept_delay delay = min delay (max_delay + 1)

-- an input at the wire that it names
abbrev pub named_input : Circuit → InputName → Input
named_input n i = record { wire = wire_id n i.wire; delay = kept_delay i.delay }

-- an output at the wire that it names, if any
abbrev pub named_output : Circuit → OutputName → Output
named_output n o = record { wire = option_map (wire_id n) o.wire; delay = kept_delay o.delay }

-- the ports of a new module, whose wires all stand, with delays that aren't checked
pub record AreNamedPorts (n : Circuit) (new : NewModule) (ports : NewPorts) : Type 0 where
  pub reads : IsTrue (inputs_stand n new.inputs)
  pub drives : IsTrue (list_all (stands n) (driven_names new.outputs))
  pub inputs : ports.inputs ≡ map (named_input n) new.inputs
  pub outputs : ports.outputs ≡ map (named_output n) new.outputs

-- the width of the wire at the first input
abbrev pub width_of_first : Circuit → List Input → ℕ
width_of_first n [] = 0
width_of_first n (first ∷ others) = width_of (wire_at n first.wire.0)

-- the wire at an input has the input's width
abbrev pub input_fits : Circuit → Kind → ℕ → ℕ × Input → Bool
input_fits n kind width port = width_of (wire_at n port.1.wire.0) == input_width kind width port.0

-- the wire, if there is one, has a width
abbrev pub is_wide : Circuit → Option WireId → ℕ → Bool
is_wide n None width = true
is_wide n (Some wire) width = width_of (wire_at n wire.0) == width

-- the wire at an output, if there is one, has the output's width
abbrev pub output_fits : Circuit → Kind → ℕ → ℕ × Output → Bool
output_fits n kind width port = is_wide n port.1.wire (output_width kind width port.0)

-- nothing drives the wire, if there is one
abbrev pub wire_is_undriven : Circuit → Option WireId → Bool
wire_is_undriven n None = true
wire_is_undriven n (Some wire) = is_nothing (driver n wire.0)

-- nothing drives the wire at an output, if there is one
abbrev pub output_is_undriven : Circuit → Output → Bool
output_is_undriven n o = wire_is_undriven n o.wire
