use Rattle.mp_commands.proofs.Names.{length, lines_of}
use Rattle.mp_commands.proofs.PlayLemmas.{ArePlayed}
use Rattle.mp_commands.proofs.play.put_replies.Given as goal

-- the lines so far were answered
abbrev pub invariant-loop-rest : goal.invariant-loop-rest
invariant-loop-rest g l = ArePlayed l.fn.session l.session (lines_of l.script) (lines_of l.rest) l.fn.out l.out

abbrev pub decreases-loop-rest : goal.decreases-loop-rest
decreases-loop-rest g l = length l.rest
