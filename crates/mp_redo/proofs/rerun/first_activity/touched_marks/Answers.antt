use Rattle.std.proofs.Common.{sym, subst, ◌∙◌, arith}
use Rattle.std.specs.List.{Contains}
use Rattle.std.proofs.lemmas.Bool.{both_ways}
use Rattle.mp_model.proofs.SlotLemmas.{slot_within}
use Rattle.mp_partition.specs.runs.Marks.{is_marked}
use Rattle.mp_redo.proofs.rerun.first_activity.touched_marks.Goals as goal

pub returns : goal.returns
returns c =
    let new = c.args.change.now.new.now in
    let marks = c.in_ok-marks.marks.items in
    let count = c.module_slots.ensures.value in
    record {
      places = c.in_ok-marks.ensures.places ∙ count;
      marked = λ m is. (c.in_ok-ids.ensures.touched m).0 (subst (λ xs. Contains xs (record { 0 = m })) c.as_slice.ensures.value (c.in_ok-marks.ensures.marked m is));
      others = λ m r at off. c.in_ok-ids.ensures.others m r at (λ has.
          let low = slot_within new.modules m r at in
          both_ways (is_marked marks m) off
          (c.in_ok-marks.ensures.all m (omega (arith, low, count)) (subst (λ xs. Contains xs (record { 0 = m })) (sym c.as_slice.ensures.value) has)));
    }
