use Rattle.std.proofs.Common.{take}
use Rattle.mp_active.proofs.lemmas.compare.AsleepLemmas.{AreAwake}
use Rattle.mp_active.proofs.compare.comparison.Comparison.read_awake.Given as goal

abbrev pub invariant-loop-input : goal.invariant-loop-input
invariant-loop-input l = AreAwake (take l.input-index l.inputs) l.fn.self l.self
