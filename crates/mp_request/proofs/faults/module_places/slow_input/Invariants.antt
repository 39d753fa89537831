use Rattle.std.specs.Prelude.{◌≡◌, ◌+◌, drop, not}
use Rattle.std.specs.List.{position_or_len}
use Rattle.mp_netlist.specs.Edits.{is_input_delay}
use Rattle.mp_records.specs.declared.port_names.InputName.{InputName}
use Rattle.mp_request.proofs.faults.module_places.slow_input.Given as goal

-- the first is among those that are left
abbrev pub invariant-loop-port : goal.invariant-loop-port
invariant-loop-port l =
    l.port + position_or_len (λ (i : InputName). not (is_input_delay i.delay)) (drop l.port l.inputs) ≡ position_or_len (λ (i : InputName). not (is_input_delay i.delay)) l.inputs
