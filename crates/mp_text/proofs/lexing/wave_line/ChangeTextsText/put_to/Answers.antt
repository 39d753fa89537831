use Rattle.mp_text.proofs.lemmas.lexing.Names.{puts_next, puts_stopped, writes_failed, change_text}
use Rattle.mp_text.proofs.lexing.wave_line.ChangeTextsText.put_to.Goals as goal

pub returns-in_err-put_piece : goal.returns-in_err-put_piece
returns-in_err-put_piece g c =
    writes_failed _ c.from_residual.ensures.0 (puts_stopped change_text _ c.loop-time.time-index (0, 0) c.loop-time-test.true c.loop-time.invariant c.in_err-put_piece.ensures)

pub loop-time-preserved : goal.loop-time-preserved
loop-time-preserved g c = puts_next change_text _ c.loop-time.time-index (0, 0) c.loop-time-test.true c.loop-time.invariant c.in_ok-put_piece.ensures
