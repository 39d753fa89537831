use Rattle.std.proofs.Common.{◌≡◌, ◌+◌, ◌-◌, List, vec_len, sym, ap, subst, ◌∙◌, arith}
use Rattle.std.proofs.lemmas.Bool.{eqb-true}
use Rattle.mp_records.specs.declared.ids.ModuleId.{ModuleId}
use Rattle.mp_active.specs.compare.Comparing.{AreUnseen}
use Rattle.mp_depend.specs.recording.Recorders.{IsRecorder}
use Rattle.mp_depend.specs.work.Work.{block_of}
use Rattle.mp_redo.specs.declared.rerun.rerun.Rerun.{Rerun}
use Rattle.mp_redo.specs.rerun.Leaving.{CanLeave, HaveLeft}
use Rattle.mp_redo.specs.rerun.Reruns.{IsRerunAt, active_of}
use Rattle.mp_redo.specs.rerun.Windows.{AreTouched}
use Rattle.mp_redo.proofs.lemmas.rerun.BorderLemmas.{crossed, none_left, empty_when}
use Rattle.mp_redo.proofs.lemmas.rerun.KeptLemmas.{rerun_renewed}
use Rattle.mp_redo.proofs.rerun.rerun.Rerun.at_checkpoint.Goals as goal

pub find_leaving-requires-clause-is : goal.find_leaving-requires-clause-is
find_leaving-requires-clause-is c =
    let change = c.args.change.now in
    let new = change.new.now in
    let s = c.args.self.now in
    let now = c.keep_states.new.self in
    let block = block_of new.horizon (c.args.time - 1) in (
      block,
      subst (λ (x : Rerun). IsRerunAt change.old.now new change.run.now block (c.args.time - 1) x) (sym c.in_ok-keep_states.ensures.kept)
          (rerun_renewed change.old.now new change.run.now block block (c.args.time - 1) s s.activity.joined now.recorder s.window_end s.look_at (omega arith) c.requires.before.is),
    )

pub find_leaving-requires-clause-touched : goal.find_leaving-requires-clause-touched
find_leaving-requires-clause-touched c =
    let change = c.args.change.now in
    subst (λ (x : Rerun). AreTouched change.old.now change.new.now x.activity.touched.items) (sym c.in_ok-keep_states.ensures.kept) c.requires.before.touched

pub put_to_sleep-requires-clause-is : goal.put_to_sleep-requires-clause-is
put_to_sleep-requires-clause-is c =
    let change = c.args.change.now in
    let new = change.new.now in
    let s = c.args.self.now in
    let now = c.keep_states.new.self in
    let block = block_of new.horizon (c.args.time - 1) in
    let some = c.requires.some in (
      block,
      omega (arith, some),
      subst (λ (x : Rerun). IsRerunAt change.old.now new change.run.now block (c.args.time - 1) x) (sym c.in_ok-keep_states.ensures.kept)
          (rerun_renewed change.old.now new change.run.now block block (c.args.time - 1) s s.activity.joined now.recorder s.window_end s.look_at (omega arith) c.requires.before.is),
    )

pub put_to_sleep-requires-clause-can : goal.put_to_sleep-requires-clause-can
put_to_sleep-requires-clause-can c =
    let change = c.args.change.now in
    subst (λ (ids : List ModuleId). CanLeave change.old.now change.new.now c.args.time ids c.keep_states.new.self) (sym c.as_slice.ensures.value) c.in_ok-find_leaving.ensures.can

pub put_to_sleep-requires-clause-recorder : goal.put_to_sleep-requires-clause-recorder
put_to_sleep-requires-clause-recorder c =
    let change = c.args.change.now in
    let now = c.keep_states.new.self in
    subst (λ (x : Rerun). IsRecorder change.old.now change.new.now change.run.now (λ m. c.args.time) c.args.time (active_of x) now.recorder) (sym c.in_ok-keep_states.ensures.kept) c.in_ok-keep_states.ensures.recorder

pub returns-then-is_empty : goal.returns-then-is_empty
returns-then-is_empty c =
    let change = c.args.change.now in
    let old = change.old.now in
    let new = change.new.now in
    let run = change.run.now in
    let ok = c.requires.change in
    let time = c.args.time in
    let some = c.requires.some in
    let s = c.args.self.now in
    let before = c.requires.before in
    let kept = c.in_ok-keep_states.ensures.kept in
    let now = c.keep_states.new.self in
    let block = block_of new.horizon (time - 1) in
    let found = c.find_leaving.new.leaving in
    let long = found.ok.0 in
    let none : vec_len found ≡ 0 = eqb-true (vec_len found) 0 (sym c.is_empty.ensures ∙ c.if-is_empty.true) in
    let told : IsRecorder old new run (λ m. time) time (active_of now) now.recorder = subst (λ (x : Rerun). IsRecorder old new run (λ m. time) time (active_of x) now.recorder) (sym kept) c.in_ok-keep_states.ensures.recorder in
    let is : IsRerunAt old new run time (time - 1) now = subst (λ (x : Rerun). IsRerunAt old new run time (time - 1) x) (sym kept)
    (rerun_renewed old new run block time (time - 1) s s.activity.joined now.recorder s.window_end s.look_at (omega (arith, some)) before.is) in
    crossed old new ok.old_form ok.form ok.revision run ok.run time c.requires.border some c.requires.below now
    (subst (λ (x : Rerun). AreTouched old new x.activity.touched.items) (sym kept) before.touched)
    (ap (λ (x : Rerun). x.activity.joined.items) kept ∙ before.none)
    (subst (λ (x : Rerun). AreUnseen (time - 1 + 1) x.comparison) (sym kept) before.unseen)
    told.listed found.items c.in_ok-find_leaving.ensures.others now (none_left now found.items (empty_when found.items (omega (arith, long, none)))) is now.recorder told

pub returns : goal.returns
returns c =
    let change = c.args.change.now in
    let old = change.old.now in
    let new = change.new.now in
    let run = change.run.now in
    let ok = c.requires.change in
    let time = c.args.time in
    let before = c.requires.before in
    let kept = c.in_ok-keep_states.ensures.kept in
    let now = c.keep_states.new.self in
    let last = c.put_to_sleep.new.self in
    let found = c.find_leaving.new.leaving in
    let slept = c.in_ok-put_to_sleep.ensures in
    let told : IsRecorder old new run (λ m. time) time (active_of now) now.recorder = subst (λ (x : Rerun). IsRecorder old new run (λ m. time) time (active_of x) now.recorder) (sym kept) c.in_ok-keep_states.ensures.recorder in
    crossed old new ok.old_form ok.form ok.revision run ok.run time c.requires.border c.requires.some c.requires.below now
    (subst (λ (x : Rerun). AreTouched old new x.activity.touched.items) (sym kept) before.touched)
    (ap (λ (x : Rerun). x.activity.joined.items) kept ∙ before.none)
    (subst (λ (x : Rerun). AreUnseen (time - 1 + 1) x.comparison) (sym kept) before.unseen)
    told.listed found.items c.in_ok-find_leaving.ensures.others last (subst (λ (ids : List ModuleId). HaveLeft ids now last) c.as_slice.ensures.value slept.left) slept.is c.list_live.new.self
    (c.list_live.ensures old new run (λ m. time) time (active_of last) slept.recorder)
