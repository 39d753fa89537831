use Rattle.mp_phase.proofs.PhaseLemmas.{are_done-push}
use Rattle.mp_phase.proofs.share.run_here.Goals as goal

pub loop-task-preserved : goal.loop-task-preserved
loop-task-preserved g c =
    are_done-push g.T.Work.gives c.loop-task.yielded c.in-Some.task c.loop-task.dones.items c.push.new.self.items c.in_ok-done.done c.in_ok-push.ensures.items c.loop-task.invariant c.in_ok-done.ensures.done
