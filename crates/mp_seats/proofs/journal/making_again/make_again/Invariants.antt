use Rattle.std.proofs.Common.{map, length}
use Rattle.mp_text.specs.ScriptLines.{line_at}
use Rattle.mp_text.specs.lexing.Lines.{lines_of}
use Rattle.mp_seats.proofs.lemmas.journal.MakingLemmas.{SoFar}
use Rattle.mp_seats.proofs.journal.making_again.make_again.Given as goal

-- the edits of the lines before the rest were made
abbrev pub invariant-loop-rest : goal.invariant-loop-rest
invariant-loop-rest g l = SoFar (g.S.EditSession.story l.initial.session) (map line_at (lines_of l.text)) (map line_at (lines_of l.rest)) (g.S.EditSession.story l.session)

abbrev pub decreases-loop-rest : goal.decreases-loop-rest
decreases-loop-rest g l = length l.rest
