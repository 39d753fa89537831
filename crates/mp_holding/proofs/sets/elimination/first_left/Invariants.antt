use Rattle.std.proofs.Common.{◌<◌}
use Rattle.mp_holding.specs.sets.Elimination.{IsGood}
use Rattle.mp_holding.proofs.sets.elimination.first_left.Given as goal

abbrev pub invariant-loop-number : goal.invariant-loop-number
invariant-loop-number l = IsGood l.shape l.needs (λ k. k < l.number) l.left.marks.items l.left.gone.items
