use Rattle.mp_phase.proofs.Moves.{begins}
use Rattle.mp_phase.proofs.mailbox.Mailbox.new.Goals as goal

pub bounded_with-requires-clause-rule : goal.bounded_with-requires-clause-rule
bounded_with-requires-clause-rule g c = begins g.T.Work.gives
