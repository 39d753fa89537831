use Rattle.std.proofs.Common.{◌+◌, length, map, option_map, ap, ◌∙◌, arith}
use Rattle.std.specs.Arc.{arc_value}
use Rattle.std.proofs.lemmas.List.{length_push, length-map}
use Rattle.mp_depend.proofs.lemmas.recording.EndLemmas.{kept_more, kept_are}
use Rattle.mp_redo.proofs.lemmas.apart.PartLemmas.{parts_have_places}
use Rattle.mp_redo.specs.parts.Changes.{homes_in, old_part}
use Rattle.mp_redo.proofs.parts.part_run.part_checkpoints.Goals as goal

pub loop-m-preserved : goal.loop-m-preserved
loop-m-preserved c =
    let kept = c.loop-m.kept.items in
    let one = c.in_ok-part_checkpoint.field-0 in
    let items = c.in_ok-push.ensures.items in
    record {
      places = ap length items ∙ length_push kept one ∙ ap (λ k. k + 1) c.loop-m.invariant.places;
      each = λ k low. rw items (kept_more (old_part c.args.change.now c.args.part) c.loop-m.m (option_map arc_value) kept one c.loop-m.invariant.places c.loop-m.invariant.each c.in_ok-part_checkpoint.ensures k low);
    }

pub returns : goal.returns
returns c =
    let change = c.args.change.now in
    let end = c.module_slots-m-end.ensures.value in
    let places = (parts_have_places change.old.now (homes_in change) c.args.part).modules in
    kept_are (old_part change c.args.part) c.loop-m.m (map (option_map arc_value) c.loop-m.kept.items) (omega (arith, end, places)) (length-map c.loop-m.kept.items (option_map arc_value) ∙ c.loop-m.invariant.places) c.loop-m.invariant.each
