use Rattle.mp_active.proofs.lemmas.compare.TrackLemmas.{IsTracking, left}
use Rattle.mp_active.proofs.compare.comparison.Comparison.track.Given as goal

abbrev pub invariant-loop-number : goal.invariant-loop-number
invariant-loop-number l = IsTracking l.run l.now l.wire l.number l.fn.self l.self

abbrev pub decreases-loop-number : goal.decreases-loop-number
decreases-loop-number l = left l.fn.self.numbers l.number
