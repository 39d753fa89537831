use Rattle.mp_phase.proofs.Moves.{merges}
use Rattle.mp_phase.proofs.answer_protocol.take_back.Goals as goal

pub absorb-requires-clause-rule : goal.absorb-requires-clause-rule
absorb-requires-clause-rule g c = merges g.T.Work.gives _ _ _ _ _ c.requires.asks c.requires.owes
