use Rattle.mp_text.proofs.lemmas.lexing.Names.{◌+◌, ◌≤◌, length, arith, left_as, left_failed, left_then, writes_failed}
use Rattle.mp_text.proofs.lemmas.lexing.ToggleLemmas.{four_from}
use Rattle.mp_text.proofs.lexing.toggle_texts.ToggleTextsText.put_to.Goals as goal

pub returns-in_err-put_piece : goal.returns-in_err-put_piece
returns-in_err-put_piece g c =
    let next = four_from c.min-level.result c.args.self.now.times.now c.loop-place.place (omega (arith, c.min-level.ensures)) (omega (arith, c.loop-place.invariant.0)) in
    let is = c.from_residual.ensures.0 in
    left_failed _ (left_as next c.loop-place.invariant.1) _ is (writes_failed _ is c.in_err-put_piece.ensures)

pub loop-place-preserved : goal.loop-place-preserved
loop-place-preserved g c =
    let within : c.loop-place.place + 4 ≤ length c.args.self.now.times.now = omega (arith, c.loop-place.invariant.0) in
    let next = four_from c.min-level.result _ c.loop-place.place (omega (arith, c.min-level.ensures)) within in
    (within, left_then (left_as next c.loop-place.invariant.1) c.in_ok-put_piece.ensures)
