use Rattle.mp_near.specs.region.Likeness.{AreModulesLike}
use Rattle.mp_near.proofs.region.likeness.are_modules_picked.Given as goal

-- those so far
abbrev pub invariant-loop-k : goal.invariant-loop-k
invariant-loop-k l = AreModulesLike l.netlist l.picked l.small l.k
