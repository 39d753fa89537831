use Rattle.std.proofs.Common.{◌-◌, take}
use Rattle.mp_active.proofs.lemmas.compare.AsleepLemmas.{AreAsleep}
use Rattle.mp_active.proofs.compare.comparison.Comparison.read_all_asleep.Given as goal

abbrev pub invariant-loop-input : goal.invariant-loop-input
invariant-loop-input l = AreAsleep l.run (l.time - 1) (take l.input-index l.inputs) l.fn.self l.self
