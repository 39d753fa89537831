use Rattle.std.specs.Prelude.{◌≡◌, ◌+◌, drop, not}
use Rattle.std.specs.List.{position_or_len}
use Rattle.mp_netlist.specs.Edits.{output_stands}
use Rattle.mp_records.specs.declared.port_names.OutputName.{OutputName}
use Rattle.mp_request.proofs.faults.module_places.missing_output.Given as goal

-- the first is among those that are left
abbrev pub invariant-loop-port : goal.invariant-loop-port
invariant-loop-port l =
    l.port + position_or_len (λ (o : OutputName). not (output_stands l.netlist o.wire)) (drop l.port l.outputs)
    ≡ position_or_len (λ (o : OutputName). not (output_stands l.netlist o.wire)) l.outputs
