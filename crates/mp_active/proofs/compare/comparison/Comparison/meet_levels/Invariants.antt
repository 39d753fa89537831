use Rattle.std.proofs.Common.{[], take}
use Rattle.mp_active.specs.compare.Meeting.{HasMet}
use Rattle.mp_active.proofs.compare.comparison.Comparison.meet_levels.Given as goal

abbrev pub invariant-loop-level : goal.invariant-loop-level
invariant-loop-level l = HasMet l.run l.time [] (take l.level-index l.levels) l.fn.self l.self
