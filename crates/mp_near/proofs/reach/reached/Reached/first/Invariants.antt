use Rattle.mp_near.proofs.lemmas.reach.ReachLemmas.{AreFirst}
use Rattle.mp_near.proofs.reach.reached.Reached.first.Given as goal

-- the wires of the modules so far are marked
abbrev pub invariant-loop-m : goal.invariant-loop-m
invariant-loop-m l = AreFirst l.old l.new l.modules.items l.initial.wires.items l.m l.wires.items
