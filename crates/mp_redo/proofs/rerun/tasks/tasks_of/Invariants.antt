use Rattle.std.proofs.Common.{take}
use Rattle.mp_phase.specs.Phase.{AreDone}
use Rattle.mp_depend.specs.work.Work.{block_of}
use Rattle.mp_redo.specs.rerun.Entering.{AllTasksWork}
use Rattle.mp_redo.specs.rerun.Tasks.{IsTaskOf}
use Rattle.mp_redo.proofs.rerun.tasks.tasks_of.Given as goal

-- a task for each so far
abbrev pub invariant-loop-id : goal.invariant-loop-id
invariant-loop-id l = record {
  are : AreDone (IsTaskOf l.change.old.now l.time (block_of l.change.new.now.horizon l.time) l.window_end) (take l.id-index l.joining) l.tasks.items;
  work : AllTasksWork l.change.old.now l.change.new.now l.tasks.items;
}
