use Rattle.mp_near.specs.reach.Numbers.{AreNumbered}
use Rattle.mp_near.proofs.reach.numbering.Numbering.of.Given as goal

-- those so far
abbrev pub invariant-loop-number : goal.invariant-loop-number
invariant-loop-number l = AreNumbered l.marks l.number l.numbers.items l.places.items
