use Rattle.std.proofs.Common.{◌<◌, ◌≤◌, List, length, slice_index_or, ap, sym, subst, ◌∙◌, arith}
use Rattle.std.proofs.lemmas.Bool.{both_ways}
use Rattle.std.proofs.lemmas.List.{get_or_default}
use Rattle.mp_records.specs.declared.ids.ModuleId.{ModuleId}
use Rattle.mp_redo.specs.rerun.Reruns.{active_of}
use Rattle.mp_redo.proofs.lemmas.rerun.EnteringLemmas.{window_work, passed_more, passed_all}
use Rattle.mp_redo.proofs.rerun.rerun.Rerun.enter_window.Goals as goal
use Rattle.mp_redo.proofs.rerun.rerun.Rerun.enter_window.Goals.{then-is_at_work, else-is_at_work}

pub enter-requires : goal.enter-requires
enter-requires g c =
    let change = c.args.change.now in
    let s = c.args.self.now in
    let at = c.is_at_work.ensures.0 c.if-is_at_work.true in
    (change.old.now, change.new.now, c.requires.allowed, window_work change.old.now change.new.now (active_of s) c.args.time s.window_end _ c.requires.window c.requires.work at.0 at.1)

pub loop-id-init : goal.loop-id-init
loop-id-init g c = λ k d low. absurd (let no : ⊥ = omega (arith, low) in no)

pub loop-id-preserved : goal.loop-id-preserved
loop-id-preserved g c =
    let s = c.args.self.now in
    let list = s.recorder.live.items in
    let i = c.loop-id.id-index in
    let seen = c.live-id-items.result.now in
    let id : ModuleId = slice_index_or seen i (record { 0 = 0 }) in
    let within : i < length list = subst (λ (xs : List ModuleId). i < length xs) c.live-id-items.ensures c.loop-id-test.true in
    let at = λ (d : ModuleId). get_or_default list i d (record { 0 = 0 }) within ∙ ap (λ (xs : List ModuleId). slice_index_or xs i (record { 0 = 0 })) (sym c.live-id-items.ensures) in
    passed_more c.args.change.now.new.now (active_of s) (g.G.Gate.passed c.args.gate.now) c.args.time s.window_end list i c.loop-id.invariant id at
    (λ stands on. elim c.if-is_at_work.branch [
      | then-is_at_work w ↦ w.enter.ensures
      | else-is_at_work w ↦ absurd (both_ways c.is_at_work.result w.if-is_at_work.false (c.is_at_work.ensures.1 (stands, on)))
    ])

pub returns-clause-passed : goal.returns-clause-passed
returns-clause-passed g c =
    let s = c.args.self.now in
    passed_all c.args.change.now.new.now (active_of s) (g.G.Gate.passed c.args.gate.now) c.args.time s.window_end s.recorder.live.items c.loop-id.id-index c.loop-id.invariant
    (subst (λ (xs : List ModuleId). length xs ≤ c.loop-id.id-index) c.live-id-items.ensures c.loop-id-test.false) c.requires.listed
