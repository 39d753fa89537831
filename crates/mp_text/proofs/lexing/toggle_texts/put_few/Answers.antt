use Rattle.mp_text.proofs.lemmas.lexing.Names.{left_as, left_failed, left_then, writes_failed}
use Rattle.mp_text.proofs.lemmas.lexing.ToggleLemmas.{one_from}
use Rattle.mp_text.proofs.lexing.toggle_texts.put_few.Goals as goal

pub returns-in_err-put_piece : goal.returns-in_err-put_piece
returns-in_err-put_piece g c =
    let next = one_from c.loop-time.level _ c.args.times.now c.loop-time.time-index c.saturating_sub-level.ensures c.loop-time-test.true in
    let is = c.from_residual.ensures.0 in
    left_failed _ (left_as next c.loop-time.invariant) _ is (writes_failed _ is c.in_err-put_piece.ensures)

pub loop-time-preserved : goal.loop-time-preserved
loop-time-preserved g c =
    let next = one_from c.loop-time.level _ c.args.times.now c.loop-time.time-index c.saturating_sub-level.ensures c.loop-time-test.true in
    left_then (left_as next c.loop-time.invariant) c.in_ok-put_piece.ensures
