use Rattle.std.proofs.Common.{◌≡◌, ◌⊎◌, ℕ, slice_index_or, ap, sym, subst, ◌∙◌, arith, inl, inr}
use Rattle.std.specs.List.{Contains}
use Rattle.std.proofs.lemmas.Bool.{cases_eq}
use Rattle.std.proofs.lemmas.List.{get_or_default}
use Rattle.std.proofs.lemmas.List.Elements.{Contains-get_or}
use Rattle.mp_records.specs.declared.ids.ModuleId.{ModuleId}
use Rattle.mp_depend.specs.recording.Opened.{HasNoWorkSpan}
use Rattle.mp_depend.proofs.lemmas.recording.JoinLemmas.{joined_overlays, joined_listed}
use Rattle.mp_depend.proofs.lemmas.recording.JoinWorkLemmas.{joined_work_spans}
use Rattle.mp_depend.proofs.lemmas.recording.OpenedLemmas.{opened_none, opened_then, joined_before, joined_none, joined_then}
use Rattle.mp_depend.proofs.recording.rerun_recorder.RerunRecorder.open_joined.Goals as goal

pub loop-id-init : goal.loop-id-init
loop-id-init c =
    let now = c.args.self.now in
    record {
      sound = c.requires.sound;
      opened = λ live all. opened_none c.args.new.now c.args.block c.args.to live now.places.items now.work_spans.items;
      joined = λ live all. joined_none c.args.new.now c.args.run.now c.args.block live now.places.items now.overlays.items;
      done = λ live all k d low. absurd (let no : ⊥ = omega (arith, low) in no);
      listed = λ live m joins. inl joins;
      more = λ m is. is;
    }

pub open_one-requires-clause-sound : goal.open_one-requires-clause-sound
open_one-requires-clause-sound c = c.loop-id.invariant.sound

pub open_one-requires-clause-stands : goal.open_one-requires-clause-stands
open_one-requires-clause-stands c =
    let d : ModuleId = record { 0 = 0 } in
    c.requires.stand (slice_index_or c.args.joined.now c.loop-id.id-index d).0 (Contains-get_or c.args.joined.now c.loop-id.id-index d c.loop-id-test.true)

pub loop-id-preserved : goal.loop-id-preserved
loop-id-preserved c =
    let new = c.args.new.now in
    let run = c.args.run.now in
    let block = c.args.block in
    let to = c.args.to in
    let joined = c.args.joined.now in
    let first = c.args.self.now in
    let now = c.loop-id.self in
    let after = c.open_one.new.self in
    let i = c.loop-id.id-index in
    let d : ModuleId = record { 0 = 0 } in
    let id : ModuleId = slice_index_or joined i d in
    let has = Contains-get_or joined i d c.loop-id-test.true in
    let so_far = c.loop-id.invariant in
    let step = c.in_ok-open_one.ensures in
    record {
      sound = step.sound;
      opened = λ live all.
          opened_then new block to live first.places.items now.places.items after.places.items first.work_spans.items now.work_spans.items after.work_spans.items (so_far.opened live all) (step.opened live (all id.0 has));
      joined = λ live all.
          joined_then new run block live first.places.items now.places.items after.places.items first.overlays.items now.overlays.items after.overlays.items (so_far.joined live all) (step.joined live (all id.0 has));
      done = λ live all k e low joins. elim (cases_eq k i) as (λ _. ⊥) [
        | inl last ↦
            let same : slice_index_or joined k e ≡ id = ap (λ j. slice_index_or joined j e) last ∙ sym (get_or_default joined i d e c.loop-id-test.true) in
            step.done live (subst (λ (x : ModuleId). HasNoWorkSpan new live after.places.items x.0) same joins)
        | inr other ↦
            so_far.done live all k e (omega (arith, low, other))
            (joined_before new block to live now.places.items after.places.items now.work_spans.items after.work_spans.items (step.opened live (all id.0 has)) (slice_index_or joined k e).0 joins)
      ];
      listed = λ live m joins. elim (so_far.listed live m joins) as (λ _. HasNoWorkSpan new live after.places.items m ⊎ Contains after.live.items (record { 0 = m })) [
        | inl still ↦ step.listed live m still
        | inr is ↦ inr (step.more m is)
      ];
      more = λ m is. step.more m (so_far.more m is);
    }

pub returns : goal.returns
returns c = λ old from live now joins is.
    let new = c.args.new.now in
    let run = c.args.run.now in
    let block = c.args.block in
    let to = c.args.to in
    let joined = c.args.joined.now in
    let first = c.args.self.now in
    let after = c.loop-id.self in
    let over = c.loop-id.invariant in
    let all = joins.become.join in
    let opened = over.opened now all in
    let done : (m : ℕ) → Contains joined (record { 0 = m }) → HasNoWorkSpan new now after.places.items m → ⊥ = λ m has still.
    let end = c.loop-id-test.false in
    let within = has.1 in
    over.done now all has.0 (record { 0 = m }) (omega (arith, end, within)) (subst (λ (x : ModuleId). HasNoWorkSpan new now after.places.items x.0) (sym has.2) still) in
    let work = joined_work_spans old new from to block joined live now first.places.items after.places.items first.work_spans.items after.work_spans.items joins is.opened is.worked opened done in
    record {
      overlays = joined_overlays new from joined live now first.places.items first.work_spans.items joins.become is.opened after.places.items done run block first.overlays.items after.overlays.items (over.joined now all) is.overlays;
      worked = work.0;
      opened = work.1;
      listed = joined_listed new from joined live now first.places.items first.work_spans.items joins.become is.opened after.places.items done first.live.items after.live.items (over.listed now) over.more is.listed;
    }
