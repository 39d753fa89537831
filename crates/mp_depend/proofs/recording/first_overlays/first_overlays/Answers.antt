use Rattle.std.proofs.Common.{◌≡◌, ◌+◌, List, length, ap, sym, subst, ◌∙◌, arith}
use Rattle.std.proofs.lemmas.List.{length_push}
use Rattle.mp_model.proofs.SlotLemmas.{slot_within}
use Rattle.mp_depend.specs.declared.recording.checkpoint_overlay.CheckpointOverlay.{CheckpointOverlay}
use Rattle.mp_depend.specs.recording.Overlays.{overlay_at}
use Rattle.mp_depend.proofs.lemmas.recording.KeepLemmas.{IsFirst, first_more}
use Rattle.mp_depend.proofs.recording.first_overlays.first_overlays.Goals as goal

pub loop-m-preserved : goal.loop-m-preserved
loop-m-preserved c =
    let new = c.args.new.now in
    let touched = c.args.touched.now in
    let m = c.loop-m.m in
    let overlays = c.loop-m.overlays.items in
    let overlay = c.in_ok-first_overlay.field-0 in
    let items = c.in_ok-push.ensures.items in
    let first : IsFirst new touched m overlay = c.in_ok-first_overlay.ensures in
    record {
      places = ap (λ (xs : List CheckpointOverlay). length xs) items ∙ length_push overlays overlay ∙ ap (λ k. k + 1) c.loop-m.invariant.places;
      each = λ k less. subst (λ (xs : List CheckpointOverlay). IsFirst new touched k (overlay_at xs k)) (sym items)
          (first_more new touched overlays overlay m c.loop-m.invariant.places first c.loop-m.invariant.each k less);
    }

pub returns : goal.returns
returns c = λ run states.
    let new = c.args.new.now in
    let end = c.module_slots-m-end.ensures.value in
    let over : c.loop-m.m ≡ length new.modules = omega (arith, end) in
    record {
      places = c.loop-m.invariant.places ∙ over;
      each = λ m r stands.
          let within = slot_within new.modules m r stands in
          c.loop-m.invariant.each m (omega (arith, within, over)) run r stands (states m r stands);
    }
