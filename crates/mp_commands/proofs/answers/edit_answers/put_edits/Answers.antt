use Rattle.std.specs.Prelude.{◌+◌}
use Rattle.mp_commands.proofs.lemmas.answers.Names.{arith, left_as, left_failed, writes_failed, edits_from}
use Rattle.mp_commands.proofs.lemmas.answers.EditAnswerLemmas.{edits_next}
use Rattle.mp_commands.proofs.answers.edit_answers.put_edits.Goals as goal

pub returns-in_err-put_edit_at : goal.returns-in_err-put_edit_at
returns-in_err-put_edit_at g c =
    let r = c.from_residual in
    let next = edits_next c.args.edits.now c.loop-place.place (omega arith) in
    left_failed (edits_from c.args.edits.now (c.loop-place.place + 1)) (left_as next c.loop-place.invariant) r.result r.ensures.0 (writes_failed r.result r.ensures.0 c.in_err-put_edit_at.ensures)
