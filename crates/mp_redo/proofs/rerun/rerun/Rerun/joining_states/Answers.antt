use Rattle.std.proofs.Common.{List, sym, subst}
use Rattle.std.proofs.lemmas.Result.{IfOk-weaker}
use Rattle.mp_records.specs.declared.ids.ModuleId.{ModuleId}
use Rattle.mp_phase.specs.Phase.{AreDone}
use Rattle.mp_depend.specs.work.Work.{block_of}
use Rattle.mp_redo.specs.rerun.Entering.{AllWork}
use Rattle.mp_redo.specs.rerun.Tasks.{IsDone, IsJoiningState, IsTaskOf}
use Rattle.mp_redo.proofs.lemmas.rerun.EnteringLemmas.{tasks_allowed}
use Rattle.mp_redo.proofs.lemmas.rerun.TaskLemmas.{done_through}
use Rattle.mp_redo.proofs.rerun.rerun.Rerun.joining_states.Goals as goal

pub tasks_of-requires-clause-work : goal.tasks_of-requires-clause-work
tasks_of-requires-clause-work g c =
    let change = c.args.change.now in
    let new = change.new.now in
    subst (λ (ids : List ModuleId). AllWork change.old.now new (block_of new.horizon c.args.time) c.args.self.now.window_end ids) (sym c.as_slice-joining.ensures.value) c.requires.work

pub states_by-requires-clause-allowed : goal.states_by-requires-clause-allowed
states_by-requires-clause-allowed g c κs within =
    let change = c.args.change.now in
    tasks_allowed change.old.now change.new.now (g.G.Gate.may c.args.context.now.gate.now) c.requires.allowed c.in_ok-tasks.tasks.items c.in_ok-tasks.ensures.work

pub returns : goal.returns
returns g c =
    let old = c.args.change.now.old.now in
    let time = c.args.time in
    let from = block_of c.args.change.now.new.now.horizon time in
    let to = c.args.self.now.window_end in
    let joining = c.args.self.now.activity.joining.items in
    let tasks = c.in_ok-tasks.tasks.items in
    let are = subst (λ (ids : List ModuleId). AreDone (IsTaskOf old time from to) ids tasks) c.as_slice-joining.ensures.value c.in_ok-tasks.ensures.are in
    IfOk-weaker c.states_by.result _ _
    (λ states done. done_through (IsTaskOf old time from to) IsDone (IsJoiningState old time from to) (λ id task state gives is. gives state is) joining tasks states.items are done) c.states_by.ensures
