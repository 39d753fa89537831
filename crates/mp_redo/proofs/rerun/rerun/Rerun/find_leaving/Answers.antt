use Rattle.std.proofs.Common.{◌+◌, ◌<◌, ◌≤◌, List, length, slice_index_or, ap, sym, subst, ◌∙◌, inl, inr}
use Rattle.std.proofs.lemmas.Bool.{both_ways}
use Rattle.std.proofs.lemmas.List.{get_or_default}
use Rattle.mp_records.specs.declared.ids.ModuleId.{ModuleId}
use Rattle.mp_depend.specs.recording.Live.{IsWorking}
use Rattle.mp_redo.proofs.lemmas.rerun.BorderLemmas.{HasFound, found_none, found_more, found_else, found_all}
use Rattle.mp_redo.proofs.rerun.rerun.Rerun.find_leaving.Goals as goal
use Rattle.mp_redo.proofs.rerun.rerun.Rerun.find_leaving.Goals.{then-is_back+in_ok-push, else-is_back}

pub loop-id-init : goal.loop-id-init
loop-id-init c =
    let change = c.args.change.now in
    found_none change.old.now change.new.now c.args.time c.args.self.now c.args.self.now.recorder.live.items c.args.leaving.now.items c.requires.none

pub loop-id-preserved : goal.loop-id-preserved
loop-id-preserved c =
    let old = c.args.change.now.old.now in
    let new = c.args.change.now.new.now in
    let time = c.args.time in
    let s = c.args.self.now in
    let list = s.recorder.live.items in
    let i = c.loop-id.id-index in
    let seen = c.live-id-items.result.now in
    let id : ModuleId = slice_index_or seen i (record { 0 = 0 }) in
    let within : i < length list = subst (λ (xs : List ModuleId). i < length xs) c.live-id-items.ensures c.loop-id-test.true in
    let at = λ (d : ModuleId). get_or_default list i d (record { 0 = 0 }) within ∙ ap (λ (xs : List ModuleId). slice_index_or xs i (record { 0 = 0 })) (sym c.live-id-items.ensures) in
    elim c.if-is_back.branch [
      | then-is_back+in_ok-push w ↦
          subst (HasFound old new time s list (i + 1)) (sym (ap (λ v. v.items) w.leaving-is ∙ w.in_ok-push.ensures.items))
          (found_more old new time s list i c.loop-id.leaving.items id at c.loop-id.invariant (c.is_back.ensures.can w.if-is_back.true))
      | else-is_back w ↦
          subst (HasFound old new time s list (i + 1)) (sym (ap (λ v. v.items) w.leaving-is))
          (found_else old new time s list i c.loop-id.leaving.items id at c.loop-id.invariant
          (λ stands on. elim (c.is_back.ensures.others stands on) as (λ _. IsWorking old new time id.0 time) [
            | inl back ↦ absurd (both_ways c.is_back.result w.if-is_back.false back)
            | inr works ↦ works
          ]))
    ]

pub returns-clause-can : goal.returns-clause-can
returns-clause-can c = c.loop-id.invariant.can

pub returns-clause-others : goal.returns-clause-others
returns-clause-others c =
    let change = c.args.change.now in
    let s = c.args.self.now in
    found_all change.old.now change.new.now c.args.time s s.recorder.live.items c.loop-id.id-index c.loop-id.leaving.items c.loop-id.invariant
    (subst (λ (xs : List ModuleId). length xs ≤ c.loop-id.id-index) c.live-id-items.ensures c.loop-id-test.false)
