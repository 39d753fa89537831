use Rattle.std.proofs.Common.{◌≡◌}
use Rattle.mp_phase.proofs.crew.fn.Crew.with_workers.scope.Given as goal

-- the gate is the same
abbrev pub invariant-loop-place : goal.invariant-loop-place
invariant-loop-place g l = l.workers.gate ≡ l.initial.workers.gate
