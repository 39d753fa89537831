use Rattle.mp_holding.specs.sets.Elimination.{IsGood, everywhere, left_count}
use Rattle.mp_holding.proofs.sets.elimination.greatest_closed_set.Given as goal

abbrev pub invariant-loop-number : goal.invariant-loop-number
invariant-loop-number l = IsGood l.shape l.needs everywhere l.left.marks.items l.left.gone.items

abbrev pub decreases-loop-number : goal.decreases-loop-number
decreases-loop-number l = left_count l.left.marks.items l.left.gone.items
