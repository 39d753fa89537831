use Rattle.std.proofs.Common.{rules, ◌≡◌, ◌<◌, ◌≤◌, List, length, slice_index_or, ap, sym, subst, ◌∙◌, arith}
use Rattle.std.proofs.lemmas.List.{get_or_default, take_all}
use Rattle.mp_records.specs.declared.ids.ModuleId.{ModuleId}
use Rattle.mp_phase.specs.Phase.{AreDone}
use Rattle.mp_depend.specs.declared.work.work_entry.WorkEntry.{WorkEntry}
use Rattle.mp_depend.specs.work.Work.{block_of, IsEntry}
use Rattle.mp_redo.specs.rerun.Tasks.{IsJoiningState}
use Rattle.mp_redo.proofs.lemmas.rerun.OldStateLemmas.{block_state}
use Rattle.mp_redo.proofs.lemmas.rerun.TaskLemmas.{done_next}
use Rattle.mp_redo.proofs.rerun.rerun.Rerun.kept_states.Goals as goal

pub of_kept-state-requires : goal.of_kept-state-requires
of_kept-state-requires g c =
    let change = c.args.change.now in
    let joining = c.args.self.now.activity.joining.items in
    let k = c.loop-place.place in
    let id = c.index-id.result.now in
    let low : k < length joining = search rules in
    let end = c.args.self.now.window_end in
    (change.old.now, change.new.now, c.requires.allowed, subst (λ b. IsEntry change.old.now change.new.now id.0 b end) c.requires.begins (c.requires.work id.0 (k, low, sym c.index-id.ensures)))

pub loop-place-preserved : goal.loop-place-preserved
loop-place-preserved g c =
    let change = c.args.change.now in
    let old = change.old.now in
    let is = c.requires.change in
    let time = c.args.time in
    let joining = c.args.self.now.activity.joining.items in
    let k = c.loop-place.place in
    let id = c.index-id.result.now in
    let d : ModuleId = record { 0 = 0 } in
    let low : k < length joining = search rules in
    let named : id ≡ slice_index_or joining k d = c.index-id.ensures ∙ get_or_default joining k id d low in
    let same = is.revision.horizon in
    let below = c.requires.below in
    let begins : time ≡ block_of old.horizon time = sym c.requires.begins ∙ ap (λ h. block_of h time) same in
    let from = block_of change.new.now.horizon time in
    let to = c.args.self.now.window_end in
    let state = c.of_kept-state.result in
    let entry = c.of_kept-state.ensures.entry in
    let here : IsJoiningState old time from to id state = record {
      entry_is = record { own = ap (λ (e : WorkEntry). e.«module») entry; begins = ap (λ (e : WorkEntry). e.from) entry ∙ sym c.requires.begins; ends = ap (λ (e : WorkEntry). e.to) entry };
      old_state = λ r at. c.of_kept-state.ensures.memory ∙ block_state old is.old_form change.run.now is.run id.0 time time r at begins (omega (arith, below, same));
    } in
    done_next (IsJoiningState old time from to) joining k c.loop-place.states.items c.push.new.self.items state low c.in_ok-push.ensures.items c.loop-place.invariant
    (subst (λ (i : ModuleId). IsJoiningState old time from to i state) named here)

pub returns : goal.returns
returns g c =
    let joining = c.args.self.now.activity.joining.items in
    let past : length joining ≤ c.loop-place.place = search rules in
    subst (λ (ids : List ModuleId). AreDone (IsJoiningState c.args.change.now.old.now c.args.time (block_of c.args.change.now.new.now.horizon c.args.time) c.args.self.now.window_end) ids c.loop-place.states.items)
    (take_all c.loop-place.place joining past) c.loop-place.invariant
