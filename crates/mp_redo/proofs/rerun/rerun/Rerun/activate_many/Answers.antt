use Rattle.std.proofs.Common.{rules, ◌≡◌, ℕ, ◌+◌, ◌-◌, ◌<◌, ◌≤◌, true, false, List, Option, Some, None, IsSome, length, slice_index_or, ap, sym, subst, ◌∙◌, arith}
use Rattle.std.specs.List.{Contains}
use Rattle.std.proofs.lemmas.List.{get_or_default}
use Rattle.mp_records.specs.declared.ids.ModuleId.{ModuleId}
use Rattle.mp_records.specs.declared.module_record.ModuleRecord.{ModuleRecord}
use Rattle.mp_netlist.specs.Circuit.{module_at}
use Rattle.mp_model.proofs.SlotLemmas.{slot_within}
use Rattle.mp_depend.specs.work.Work.{block_of}
use Rattle.mp_redo.specs.declared.rerun.rerun.Rerun.{Rerun}
use Rattle.mp_redo.specs.rerun.Joins.{IsFor}
use Rattle.mp_redo.specs.rerun.Reruns.{active_of, IsRerunAt}
use Rattle.mp_phase.proofs.PhaseLemmas.{are_done-length}
use Rattle.mp_redo.specs.rerun.Tasks.{IsJoiningState}
use Rattle.mp_redo.proofs.lemmas.rerun.TaskLemmas.{are_kept, state_at}
use Rattle.mp_redo.proofs.lemmas.rerun.WakingLemmas.{is_kept, HaveWokenUpTo, passed_over, one_woken, have_become, have_joined}
use Rattle.mp_redo.proofs.rerun.rerun.Rerun.activate_many.Goals as goal
use Rattle.mp_redo.proofs.rerun.rerun.Rerun.activate_many.Goals.{in-Some+then-not-index+in_ok-activate, in-Some+else-not-index, in_default}

pub index-requires : goal.index-requires
index-requires g c =
    let new = c.args.change.now.new.now in
    let id = c.index-id.result.now in
    let at : module_at new id.0 ≡ Some c.in-Some.found.now = sym c.in-Some.ensures.value in
    let inside = slot_within new.modules id.0 c.in-Some.found.now at in
    let now = c.loop-place.invariant.is c.requires.is.0 c.requires.is.1 in
    let same = now.is.followed.modules in
    let low : id.0 < length c.loop-place.self.activity.active.items = omega (arith, inside, same) in
    search rules

pub joining_states-requires-clause-kept : goal.joining_states-requires-clause-kept
joining_states-requires-clause-kept g c κs within =
    let at = c.requires.is.1 in
    are_kept c.args.change.now.old.now c.args.change.now.new.now c.args.change.now.run.now at.numbering at.since c.args.time c.args.self.now c.requires.some at.is.followed c.args.self.now.activity.joining.items
    c.requires.stand c.requires.asleep

pub index-requires-then-not-index : goal.index-requires-then-not-index
index-requires-then-not-index g c =
    let s = c.args.self.now in
    let old = c.args.change.now.old.now in
    let so = c.loop-place.invariant.so in
    let all = are_done-length (IsJoiningState old c.args.time (block_of c.args.change.now.new.now.horizon c.args.time) s.window_end) s.activity.joining.items c.in_ok-states.states.items c.in_ok-states.ensures in
    let low : c.loop-place.place < length s.activity.joining.items = search rules in
    omega (arith, all, low)

pub activate-requires-clause-entry : goal.activate-requires-clause-entry
activate-requires-clause-entry g c =
    let old = c.args.change.now.old.now in
    let new = c.args.change.now.new.now in
    let s = c.args.self.now in
    let joining = s.activity.joining.items in
    let k = c.loop-place.place in
    let l = c.loop-place.self in
    let so = c.loop-place.invariant.so in
    let id = c.index-id.result.now in
    let from = block_of new.horizon c.args.time in
    let low : k < length joining = search rules in
    let same : l.activity.joining.items ≡ joining = ap (λ (x : Rerun). x.activity.joining.items) so.woken.kept in
    let named : slice_index_or joining k id ≡ id = sym (c.index-id.ensures ∙ ap (λ (xs : List ModuleId). slice_index_or xs k id) same) in
    let end : l.window_end ≡ s.window_end = ap (λ (x : Rerun). x.window_end) so.woken.kept in
    let state = c.index-then-not-index.result.now in
    let is = state_at old c.args.time from s.window_end joining c.in_ok-states.states.items k id state c.in_ok-states.ensures low named (sym c.index-then-not-index.ensures) in
    subst (λ (e : ℕ). IsFor id from e state.entry) (sym end) is.entry_is

pub activate-requires-clause-state : goal.activate-requires-clause-state
activate-requires-clause-state g c =
    let old = c.args.change.now.old.now in
    let new = c.args.change.now.new.now in
    let s = c.args.self.now in
    let joining = s.activity.joining.items in
    let k = c.loop-place.place in
    let l = c.loop-place.self in
    let so = c.loop-place.invariant.so in
    let id = c.index-id.result.now in
    let low : k < length joining = search rules in
    let same : l.activity.joining.items ≡ joining = ap (λ (x : Rerun). x.activity.joining.items) so.woken.kept in
    let named : slice_index_or joining k id ≡ id = sym (c.index-id.ensures ∙ ap (λ (xs : List ModuleId). slice_index_or xs k id) same) in
    let at : module_at new id.0 ≡ Some c.in-Some.found.now = sym c.in-Some.ensures.value in
    let now = c.loop-place.invariant.is c.requires.is.0 c.requires.is.1 in
    let inside = slot_within new.modules id.0 c.in-Some.found.now at in
    let long = now.is.followed.modules in
    let marked : id.0 < length l.activity.active.items = omega (arith, inside, long) in
    let off : c.index.result.now ≡ false = search rules in
    let asleep : active_of l id.0 ≡ false = get_or_default l.activity.active.items id.0 false c.index.result.now marked ∙ sym c.index.ensures ∙ off in
    let kept = is_kept old new c.args.change.now.run.now now.numbering now.since c.args.time id.0 c.in-Some.found.now l c.requires.some now.is.followed at asleep in
    let state = c.index-then-not-index.result.now in
    let is = state_at old c.args.time (block_of new.horizon c.args.time) s.window_end joining c.in_ok-states.states.items k id state c.in_ok-states.ensures low named (sym c.index-then-not-index.ensures) in
    is.old_state c.in-Some.found.now kept.before

pub activate-requires-clause-is : goal.activate-requires-clause-is
activate-requires-clause-is g c = (c.requires.is.0, c.loop-place.invariant.is c.requires.is.0 c.requires.is.1)

pub loop-place-preserved : goal.loop-place-preserved
loop-place-preserved g c =
    let old = c.args.change.now.old.now in
    let new = c.args.change.now.new.now in
    let run = c.args.change.now.run.now in
    let t = c.args.time - 1 in
    let s = c.args.self.now in
    let joining = s.activity.joining.items in
    let k = c.loop-place.place in
    let l = c.loop-place.self in
    let so = c.loop-place.invariant.so in
    let id = c.index-id.result.now in
    let low : k < length joining = search rules in
    let same : l.activity.joining.items ≡ joining = ap (λ (x : Rerun). x.activity.joining.items) so.woken.kept in
    let is : slice_index_or joining k id ≡ id = sym (c.index-id.ensures ∙ ap (λ (xs : List ModuleId). slice_index_or xs k id) same) in
    elim c.match-module.branch [
      | in-Some+then-not-index+in_ok-activate w ↦
          let woken = w.in_ok-activate.ensures in
          record {
            so = subst (λ (x : Rerun). HaveWokenUpTo joining (k + 1) s x) (sym w.self-is) (one_woken joining k id s l low is so w.activate.new.self woken.woken woken.joined);
            is = λ latest at. subst (λ (x : Rerun). IsRerunAt old new run latest t x) (sym w.self-is) (woken.is latest (c.loop-place.invariant.is latest at));
          }
      | in-Some+else-not-index w ↦
          let at : module_at new id.0 ≡ Some w.in-Some.found.now = sym w.in-Some.ensures.value in
          let inside = slot_within new.modules id.0 w.in-Some.found.now at in
          let now = c.loop-place.invariant.is c.requires.is.0 c.requires.is.1 in
          let long = now.is.followed.modules in
          let marked : id.0 < length l.activity.active.items = omega (arith, inside, long) in
          let on : w.index.result.now ≡ true = search rules in
          let awake : active_of l id.0 ≡ true = get_or_default l.activity.active.items id.0 false w.index.result.now marked ∙ sym w.index.ensures ∙ on in
          record {
            so = subst (λ (x : Rerun). HaveWokenUpTo joining (k + 1) s x) (sym w.self-is) (passed_over joining k id s l low is so awake);
            is = λ latest at. subst (λ (x : Rerun). IsRerunAt old new run latest t x) (sym w.self-is) (c.loop-place.invariant.is latest at);
          }
      | in_default w ↦
          let there : Contains joining (record { 0 = id.0 }) = (k, low, is) in
          let some : IsSome (let none : Option ModuleRecord = None in none) = subst (λ (slot : Option ModuleRecord). IsSome slot) (sym w.in_default.ensures.value) (c.requires.stand id.0 there) in
          let no : ⊥ = cc in
          absurd no
    ]

pub returns-clause-active : goal.returns-clause-active
returns-clause-active g c =
    let s = c.args.self.now in
    let past : length s.activity.joining.items ≤ c.loop-place.place = search rules in
    have_become c.args.change.now.new.now s.activity.joining.items c.loop-place.place s c.loop-place.self past c.loop-place.invariant.so c.requires.stand

pub returns-clause-joined : goal.returns-clause-joined
returns-clause-joined g c =
    let s = c.args.self.now in
    let past : length s.activity.joining.items ≤ c.loop-place.place = search rules in
    have_joined c.args.change.now.new.now s.activity.joining.items c.loop-place.place s c.loop-place.self past c.loop-place.invariant.so c.requires.asleep
