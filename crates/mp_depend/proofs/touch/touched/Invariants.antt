use Rattle.mp_depend.proofs.TouchLemmas.{AreFound}
use Rattle.mp_depend.proofs.touch.touched.Given as goal

-- the touched ones of the modules so far, by number
abbrev pub invariant-loop-m : goal.invariant-loop-m
invariant-loop-m l = AreFound l.old l.new l.m l.found.items
