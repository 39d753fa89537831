use Rattle.mp_streams.proofs.OutLemmas.{puts_sooner, writes_failed}
use Rattle.mp_streams.proofs.out.Out.put_piece_past.Goals as goal

pub returns-in_err-flush : goal.returns-in_err-flush
returns-in_err-flush g c = writes_failed _ c.from_residual.ensures.0 (puts_sooner (g.P.Piece.text c.args.piece.now) c.in_err-flush.ensures.written)
