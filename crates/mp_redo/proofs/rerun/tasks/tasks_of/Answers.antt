use Rattle.std.proofs.Common.{slice_index_or, sym, subst}
use Rattle.std.proofs.lemmas.List.Elements.{All-push, Contains-get_or}
use Rattle.mp_records.specs.declared.ids.ModuleId.{ModuleId}
use Rattle.mp_depend.specs.work.Work.{block_of, IsEntry}
use Rattle.mp_redo.specs.declared.rerun.join.Join.{Join}
use Rattle.mp_redo.specs.rerun.Entering.{AllTasksWork}
use Rattle.mp_redo.specs.rerun.Tasks.{IsTaskOf}
use Rattle.mp_redo.proofs.lemmas.rerun.TaskLemmas.{done_next}
use Rattle.mp_redo.proofs.rerun.tasks.tasks_of.Goals as goal

pub task_of-requires-clause-works : goal.task_of-requires-clause-works
task_of-requires-clause-works c =
    let d : ModuleId = record { 0 = 0 } in
    c.requires.work (slice_index_or c.args.joining.now c.loop-id.id-index d).0 (Contains-get_or c.args.joining.now c.loop-id.id-index d c.loop-id-test.true)

pub loop-id-preserved : goal.loop-id-preserved
loop-id-preserved c = record {
  are = done_next (IsTaskOf c.args.change.now.old.now c.args.time (block_of c.args.change.now.new.now.horizon c.args.time) c.args.window_end) c.args.joining.now c.loop-id.id-index c.loop-id.tasks.items c.push.new.self.items c.in_ok-task_of.field-0 c.loop-id-test.true
      c.in_ok-push.ensures.items c.loop-id.invariant.are c.in_ok-task_of.ensures.is;
  work = subst (AllTasksWork c.args.change.now.old.now c.args.change.now.new.now) (sym c.in_ok-push.ensures.items)
      (All-push (λ (task : Join). IsEntry c.args.change.now.old.now c.args.change.now.new.now task.«module».0 task.from task.window_end) c.loop-id.tasks.items c.in_ok-task_of.field-0 c.loop-id.invariant.work
      c.in_ok-task_of.ensures.works);
}
