use Rattle.mp_near.specs.region.Likeness.{AreWiresLike}
use Rattle.mp_near.proofs.region.likeness.are_wires_picked.Given as goal

-- those so far
abbrev pub invariant-loop-k : goal.invariant-loop-k
invariant-loop-k l = AreWiresLike l.change.run.now l.netlist l.picked l.small l.k
