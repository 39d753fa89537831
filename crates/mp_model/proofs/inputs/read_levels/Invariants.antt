use Rattle.std.proofs.Common.{◌≡◌, map, take, length}
use Rattle.mp_records.specs.declared.ports.Input.{Input}
use Rattle.mp_model.specs.Evaluations.{present_at}
use Rattle.mp_model.proofs.inputs.read_levels.Given as goal

-- the levels so far are those of the inputs so far
abbrev pub invariant-loop-p : goal.invariant-loop-p
invariant-loop-p l = (length l.levels ≡ 4) × (take l.p l.levels ≡ map (λ (port : Input). present_at l.tracks l.time port) (take l.p l.inputs))
