use Rattle.mp_phase.specs.Phase.{AreDone}
use Rattle.mp_phase.proofs.share.run_here.Given as goal

-- the tasks so far are done
abbrev pub invariant-loop-task : goal.invariant-loop-task
invariant-loop-task g l = AreDone g.T.Work.gives l.yielded l.dones.items
