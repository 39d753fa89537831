use Rattle.mp_near.proofs.lemmas.region.PickLemmas.{AreSpread}
use Rattle.mp_near.proofs.region.picked.wires_of.Given as goal

-- the wires that the modules so far read are marked
abbrev pub invariant-loop-m : goal.invariant-loop-m
invariant-loop-m l = AreSpread l.change.old.now l.change.new.now l.reached.modules.items l.reached.wires.items l.m l.marks.items
