use Rattle.std.specs.Prelude.{◌≡◌, ◌+◌, drop, not}
use Rattle.std.specs.List.{position_or_len}
use Rattle.mp_netlist.specs.Edits.{is_delay}
use Rattle.mp_records.specs.declared.port_names.OutputName.{OutputName}
use Rattle.mp_request.proofs.faults.module_places.unfit_output.Given as goal

-- the first is among those that are left
abbrev pub invariant-loop-port : goal.invariant-loop-port
invariant-loop-port l =
    l.port + position_or_len (λ (o : OutputName). not (is_delay o.delay)) (drop l.port l.outputs) ≡ position_or_len (λ (o : OutputName). not (is_delay o.delay)) l.outputs
