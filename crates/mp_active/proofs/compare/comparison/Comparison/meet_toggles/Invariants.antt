use Rattle.std.proofs.Common.{[], take}
use Rattle.mp_partition.specs.runs.Outcomes.{Outcome}
use Rattle.mp_active.specs.compare.Meeting.{HasMet}
use Rattle.mp_active.proofs.compare.comparison.Comparison.meet_toggles.Given as goal

abbrev pub invariant-loop-number : goal.invariant-loop-number
invariant-loop-number l = (run : Outcome) → HasMet run l.time (take l.number-index l.numbers) [] l.fn.self l.self
