use Rattle.mp_text.proofs.Names.{◌<◌, subst, writes_failed, left_as, left_failed}
use Rattle.mp_text.proofs.WriteLemmas.{lines_from-next}
use Rattle.mp_text.proofs.section.SectionLinesText.put_to.Goals as goal

pub returns-in_err-put_slot : goal.returns-in_err-put_slot
returns-in_err-put_slot g c =
    let within = subst (λ count. c.loop-number.number < count) c.slot_count-number-end.ensures c.loop-number-test.true in
    let is = c.from_residual.ensures.0 in
    left_failed _ (left_as (lines_from-next _ _ c.loop-number.number within) c.loop-number.invariant) _ is (writes_failed _ is c.in_err-put_slot.ensures)
