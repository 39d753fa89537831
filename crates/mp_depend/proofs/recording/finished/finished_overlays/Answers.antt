use Rattle.std.proofs.Common.{◌+◌, length, map, option_map, ap, sym, subst, ◌∙◌, arith, ◌≢◌}
use Rattle.std.specs.Arc.{arc_value}
use Rattle.std.proofs.Math.ListN.{length-set}
use Rattle.std.proofs.lemmas.List.{length_push, length-map, get_or-set_other}
use Rattle.mp_depend.specs.declared.recording.checkpoint_overlay.CheckpointOverlay.TheVariants.{Old}
use Rattle.mp_depend.specs.recording.Endings.{IsWhole}
use Rattle.mp_depend.proofs.lemmas.recording.EndLemmas.{kept_more, kept_are}
use Rattle.mp_depend.proofs.recording.finished.finished_overlays.Goals as goal

pub loop-m-preserved : goal.loop-m-preserved
loop-m-preserved c =
    let new = c.args.new.now in
    let m = c.loop-m.m in
    let found = c.loop-m.found.items in
    let one = c.in_ok-finished_overlay.field-0 in
    let items = c.in_ok-push.ensures.items in
    let left = c.loop-m.left.items in
    record {
      places = length-set left m c.replace-overlay.new.dest ∙ c.loop-m.invariant.places;
      size = ap length items ∙ length_push found one ∙ ap (λ k. k + 1) c.loop-m.invariant.size;
      made = λ k low. rw items (kept_more new m (option_map arc_value) found one c.loop-m.invariant.size c.loop-m.invariant.made c.in_ok-finished_overlay.ensures k low);
      left = λ k r low at.
          let other : k ≢ m = omega (arith, low) in
          subst (IsWhole new c.args.run.now k r) (sym (get_or-set_other left m k c.replace-overlay.new.dest Old other))
          (c.loop-m.invariant.left k r (omega (arith, low)) at);
    }

pub returns : goal.returns
returns c =
    let end = c.module_slots-m-end.ensures.value in
    kept_are c.args.new.now c.loop-m.m (map (option_map arc_value) c.loop-m.found.items) (omega (arith, end)) (length-map c.loop-m.found.items (option_map arc_value) ∙ c.loop-m.invariant.size) c.loop-m.invariant.made
