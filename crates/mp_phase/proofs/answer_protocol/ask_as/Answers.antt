use Rattle.mp_phase.proofs.Moves.{forks}
use Rattle.mp_phase.proofs.answer_protocol.ask_as.Goals as goal

pub another-requires-clause-rule : goal.another-requires-clause-rule
another-requires-clause-rule g c = forks g.T.Work.gives _ _ _ c.requires.idle
