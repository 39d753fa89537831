use Rattle.mp_phase.proofs.Moves.{pushes}
use Rattle.mp_phase.proofs.worker.answer.Goals as goal

pub send_as-requires-clause-rule : goal.send_as-requires-clause-rule
send_as-requires-clause-rule g c = (pushes g.T.Work.gives _ _ _ c.args.job.leave.tasks.items _ c.args.job.owed c.run_here-dones.ensures, λ items views h at. tt)
