use Rattle.std.proofs.Common.{◌≡◌, ◌++◌, []}
use Rattle.mp_active.specs.steps.Taking.{is_gone, taken_in, HasTaken}
use Rattle.mp_active.proofs.steps.taking.take_changes.Given as goal

-- so many units are over
abbrev pub invariant-loop-k : goal.invariant-loop-k
invariant-loop-k l =
    HasTaken (is_gone l.sources) l.k l.fn.simulation l.simulation
    × (l.taken.items ≡ l.fn.taken.items ++ taken_in (is_gone l.sources) l.time l.fn.simulation l.k)
    × (l.toggles ≡ [])
    × (l.levels ≡ [])
