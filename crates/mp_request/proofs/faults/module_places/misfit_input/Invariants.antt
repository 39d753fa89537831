use Rattle.std.specs.Prelude.{◌≡◌, ◌+◌, ℕ, ◌==◌, drop, not}
use Rattle.std.specs.List.{position_or_len, enumerate_from}
use Rattle.mp_modules.specs.Kinds.{input_width}
use Rattle.mp_netlist.specs.Edits.{width_named}
use Rattle.mp_records.specs.declared.port_names.InputName.{InputName}
use Rattle.mp_request.specs.faults.EditPlaces.{misfit_input}
use Rattle.mp_request.proofs.faults.module_places.misfit_input.Given as goal

-- the first is among those that are left
abbrev pub invariant-loop-port : goal.invariant-loop-port
invariant-loop-port l =
    l.port + position_or_len (λ (port : ℕ × InputName). not (width_named l.netlist port.1.wire == input_width l.kind l.width port.0)) (enumerate_from l.port (drop l.port l.inputs))
    ≡ misfit_input l.netlist l.kind l.width l.inputs
