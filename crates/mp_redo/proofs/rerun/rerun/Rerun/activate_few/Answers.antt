use Rattle.std.proofs.Common.{rules, ◌≡◌, ℕ, ◌+◌, ◌-◌, ◌<◌, ◌≤◌, true, false, List, Option, Some, None, IsSome, length, slice_index_or, ap, sym, subst, ◌∙◌, arith}
use Rattle.std.specs.List.{Contains}
use Rattle.std.proofs.lemmas.List.{get_or_default}
use Rattle.mp_records.specs.declared.ids.ModuleId.{ModuleId}
use Rattle.mp_records.specs.declared.module_record.ModuleRecord.{ModuleRecord}
use Rattle.mp_netlist.specs.Circuit.{module_at}
use Rattle.mp_model.proofs.SlotLemmas.{slot_within}
use Rattle.mp_depend.specs.work.Work.{block_of, IsEntry}
use Rattle.mp_redo.specs.declared.rerun.rerun.Rerun.{Rerun}
use Rattle.mp_redo.specs.rerun.Reruns.{active_of, IsRerunAt}
use Rattle.mp_redo.proofs.lemmas.rerun.WakingLemmas.{HaveWokenUpTo, passed_over, one_woken, have_become, have_joined}
use Rattle.mp_redo.proofs.rerun.rerun.Rerun.activate_few.Goals as goal
use Rattle.mp_redo.proofs.rerun.rerun.Rerun.activate_few.Goals.{in-Some+then-not-index+in_ok-activate_one, in-Some+else-not-index, in_default}

pub index-requires : goal.index-requires
index-requires g c =
    let new = c.args.change.now.new.now in
    let id = c.index-id.result.now in
    let at : module_at new id.0 ≡ Some c.in-Some.found.now = sym c.in-Some.ensures.value in
    let inside = slot_within new.modules id.0 c.in-Some.found.now at in
    let now = c.loop-place.invariant.is c.requires.is.0 c.requires.is.1 in
    let same = now.is.followed.modules in
    let low : id.0 < length c.loop-place.self.activity.active.items = omega (arith, inside, same) in
    search rules

pub activate_one-requires-clause-asleep : goal.activate_one-requires-clause-asleep
activate_one-requires-clause-asleep g c =
    let new = c.args.change.now.new.now in
    let l = c.loop-place.self in
    let id = c.index-id.result.now in
    let at : module_at new id.0 ≡ Some c.in-Some.found.now = sym c.in-Some.ensures.value in
    let now = c.loop-place.invariant.is c.requires.is.0 c.requires.is.1 in
    let inside = slot_within new.modules id.0 c.in-Some.found.now at in
    let long = now.is.followed.modules in
    let marked : id.0 < length l.activity.active.items = omega (arith, inside, long) in
    let off : c.index.result.now ≡ false = search rules in
    get_or_default l.activity.active.items id.0 false c.index.result.now marked ∙ sym c.index.ensures ∙ off

pub activate_one-requires-clause-is : goal.activate_one-requires-clause-is
activate_one-requires-clause-is g c = (c.requires.is.0, c.loop-place.invariant.is c.requires.is.0 c.requires.is.1)

pub activate_one-requires-clause-works : goal.activate_one-requires-clause-works
activate_one-requires-clause-works g c =
    let old = c.args.change.now.old.now in
    let new = c.args.change.now.new.now in
    let s = c.args.self.now in
    let joining = s.activity.joining.items in
    let k = c.loop-place.place in
    let l = c.loop-place.self in
    let so = c.loop-place.invariant.so in
    let id = c.index-id.result.now in
    let low : k < length joining = search rules in
    let same : l.activity.joining.items ≡ joining = ap (λ (x : Rerun). x.activity.joining.items) so.woken.kept in
    let is : slice_index_or joining k id ≡ id = sym (c.index-id.ensures ∙ ap (λ (xs : List ModuleId). slice_index_or xs k id) same) in
    let end : l.window_end ≡ s.window_end = ap (λ (x : Rerun). x.window_end) so.woken.kept in
    subst (λ (e : ℕ). IsEntry old new id.0 (block_of new.horizon c.args.time) e) (sym end) (c.requires.work id.0 (k, low, is))

pub loop-place-preserved : goal.loop-place-preserved
loop-place-preserved g c =
    let old = c.args.change.now.old.now in
    let new = c.args.change.now.new.now in
    let run = c.args.change.now.run.now in
    let t = c.args.time - 1 in
    let s = c.args.self.now in
    let joining = s.activity.joining.items in
    let k = c.loop-place.place in
    let l = c.loop-place.self in
    let so = c.loop-place.invariant.so in
    let id = c.index-id.result.now in
    let low : k < length joining = search rules in
    let same : l.activity.joining.items ≡ joining = ap (λ (x : Rerun). x.activity.joining.items) so.woken.kept in
    let is : slice_index_or joining k id ≡ id = sym (c.index-id.ensures ∙ ap (λ (xs : List ModuleId). slice_index_or xs k id) same) in
    elim c.match-module.branch [
      | in-Some+then-not-index+in_ok-activate_one w ↦
          let woken = w.in_ok-activate_one.ensures in
          record {
            so = subst (λ (x : Rerun). HaveWokenUpTo joining (k + 1) s x) (sym w.self-is) (one_woken joining k id s l low is so w.activate_one.new.self woken.woken woken.joined);
            is = λ latest at. subst (λ (x : Rerun). IsRerunAt old new run latest t x) (sym w.self-is) (woken.is latest (c.loop-place.invariant.is latest at));
          }
      | in-Some+else-not-index w ↦
          let at : module_at new id.0 ≡ Some w.in-Some.found.now = sym w.in-Some.ensures.value in
          let inside = slot_within new.modules id.0 w.in-Some.found.now at in
          let now = c.loop-place.invariant.is c.requires.is.0 c.requires.is.1 in
          let long = now.is.followed.modules in
          let marked : id.0 < length l.activity.active.items = omega (arith, inside, long) in
          let on : w.index.result.now ≡ true = search rules in
          let awake : active_of l id.0 ≡ true = get_or_default l.activity.active.items id.0 false w.index.result.now marked ∙ sym w.index.ensures ∙ on in
          record {
            so = subst (λ (x : Rerun). HaveWokenUpTo joining (k + 1) s x) (sym w.self-is) (passed_over joining k id s l low is so awake);
            is = λ latest at. subst (λ (x : Rerun). IsRerunAt old new run latest t x) (sym w.self-is) (c.loop-place.invariant.is latest at);
          }
      | in_default w ↦
          let there : Contains joining (record { 0 = id.0 }) = (k, low, is) in
          let some : IsSome (let none : Option ModuleRecord = None in none) = subst (λ (slot : Option ModuleRecord). IsSome slot) (sym w.in_default.ensures.value) (c.requires.stand id.0 there) in
          let no : ⊥ = cc in
          absurd no
    ]

pub returns-clause-active : goal.returns-clause-active
returns-clause-active g c =
    let s = c.args.self.now in
    let past : length s.activity.joining.items ≤ c.loop-place.place = search rules in
    have_become c.args.change.now.new.now s.activity.joining.items c.loop-place.place s c.loop-place.self past c.loop-place.invariant.so c.requires.stand

pub returns-clause-joined : goal.returns-clause-joined
returns-clause-joined g c =
    let s = c.args.self.now in
    let past : length s.activity.joining.items ≤ c.loop-place.place = search rules in
    have_joined c.args.change.now.new.now s.activity.joining.items c.loop-place.place s c.loop-place.self past c.loop-place.invariant.so c.requires.asleep
