use Rattle.mp_holding.proofs.lemmas.sets.ReaderLemmas.{AreReadersUpto}
use Rattle.mp_holding.proofs.sets.readers.Readers.of.Given as goal

abbrev pub invariant-loop-place : goal.invariant-loop-place
invariant-loop-place l = AreReadersUpto l.needs l.place l.last.items l.before.items
