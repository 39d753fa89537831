use Rattle.mp_active.proofs.lemmas.compare.BeginningLemmas.{AreListedTo}
use Rattle.mp_active.proofs.compare.comparison.Comparison.list_all.Given as goal

abbrev pub invariant-loop-wire : goal.invariant-loop-wire
invariant-loop-wire l = AreListedTo l.run l.wire l.fn.self l.self
