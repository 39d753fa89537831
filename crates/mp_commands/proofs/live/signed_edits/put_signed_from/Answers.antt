use Rattle.std.specs.Prelude.{◌+◌}
use Rattle.mp_commands.proofs.lemmas.answers.Names.{arith, left_as, left_failed, writes_failed}
use Rattle.mp_commands.specs.live.SignedEdits.{signed_from}
use Rattle.mp_commands.proofs.lemmas.live.SignedEditLemmas.{signed_next}
use Rattle.mp_commands.proofs.live.signed_edits.put_signed_from.Goals as goal

pub returns-in_err-put_signed_at : goal.returns-in_err-put_signed_at
returns-in_err-put_signed_at g c =
    let r = c.from_residual in
    let next = signed_next c.args.authors.now c.args.edits.now c.loop-place.place (omega arith) in
    left_failed (signed_from c.args.authors.now c.args.edits.now (c.loop-place.place + 1)) (left_as next c.loop-place.invariant) r.result r.ensures.0
    (writes_failed r.result r.ensures.0 c.in_err-put_signed_at.ensures)
