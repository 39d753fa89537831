use Rattle.std.proofs.Common.{◌-◌, take}
use Rattle.mp_active.specs.compare.Waking.{slept}
use Rattle.mp_active.proofs.lemmas.compare.WakingLemmas.{HaveTurned}
use Rattle.mp_active.proofs.compare.comparison.Comparison.let_all_follow.Given as goal

abbrev pub invariant-loop-output : goal.invariant-loop-output
invariant-loop-output l = HaveTurned l.run (l.time - 1) (slept (take l.output-index l.outputs) l.time) l.fn.self l.self
