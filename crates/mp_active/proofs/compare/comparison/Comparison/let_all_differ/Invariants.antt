use Rattle.std.proofs.Common.{take}
use Rattle.mp_active.specs.compare.Waking.{woken}
use Rattle.mp_active.proofs.lemmas.compare.WakingLemmas.{HaveTurned}
use Rattle.mp_active.proofs.compare.comparison.Comparison.let_all_differ.Given as goal

abbrev pub invariant-loop-output : goal.invariant-loop-output
invariant-loop-output l = HaveTurned l.run l.now (woken (take l.output-index l.outputs)) l.fn.self l.self
