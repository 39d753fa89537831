use Rattle.std.proofs.Common.{◌≡◌, map, take, length}
use Rattle.mp_records.specs.declared.ports.Input.{Input}
use Rattle.mp_netlist.specs.Circuit.{wire_at}
use Rattle.mp_model.specs.Levels.{initial_of}
use Rattle.mp_simulation.proofs.run.settling.read_initial_levels.Given as goal

-- the levels so far are those of the inputs so far
abbrev pub invariant-loop-p : goal.invariant-loop-p
invariant-loop-p l = (length l.levels ≡ 4) × (take l.p l.levels ≡ map (λ (i : Input). initial_of (wire_at l.netlist i.wire.0)) (take l.p l.inputs))
