use Rattle.std.proofs.Common.{◌≡◌, true}
use Rattle.std.specs.Io.KnownBytes.{IsAtEnd}
use Rattle.mp_text.specs.lines.Incoming.{incoming}
use Rattle.mp_text.proofs.lemmas.lines.ReadingLemmas.{IsReading}
use Rattle.mp_text.proofs.lines.reading.read_on.Given as goal

-- what was read so far of the line
abbrev pub invariant-loop : goal.invariant-loop
invariant-loop g l =
    (goal.iterator-loop g).can_next l.iterator' × (goal.iterator-loop g).is_finite l.iterator'
    × IsReading (incoming (g.S.Source.left l.fn.source) (g.S.Source.fault_count l.fn.source) l.fn.chunk l.fn.line)
    (incoming (g.S.Source.left l.source) (g.S.Source.fault_count l.source) l.chunk l.line)
    × (l.chunk.is_last ≡ true → IsAtEnd (g.S.Source.left l.source))
