use Rattle.mp_records.proofs.lemmas.lists.ReplacingLemmas.{AreReplacedUpto}
use Rattle.mp_records.proofs.lists.pieces.Pieces.replace.Given as goal

-- those so far are replaced
abbrev pub invariant-loop-k : goal.invariant-loop-k
invariant-loop-k g l = AreReplacedUpto l.blank l.fn.self l.places l.entries l.k l.self
