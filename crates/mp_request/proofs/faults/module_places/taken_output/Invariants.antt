use Rattle.std.specs.Prelude.{◌≡◌, ◌+◌, ℕ, drop, take}
use Rattle.std.specs.List.{position_or_len, enumerate_from}
use Rattle.mp_records.specs.declared.port_names.OutputName.{OutputName}
use Rattle.mp_request.specs.faults.EditPlaces.{is_taken, taken_output}
use Rattle.mp_request.proofs.faults.module_places.taken_output.Given as goal

-- the first is among those that are left
abbrev pub invariant-loop-port : goal.invariant-loop-port
invariant-loop-port l =
    l.port + position_or_len (λ (port : ℕ × OutputName). is_taken l.netlist (take port.0 l.outputs) port.1.wire) (enumerate_from l.port (drop l.port l.outputs))
    ≡ taken_output l.netlist l.outputs
