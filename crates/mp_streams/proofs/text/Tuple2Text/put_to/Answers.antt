use Rattle.mp_streams.proofs.OutLemmas.{puts_then, puts_sooner, writes_failed}
use Rattle.mp_streams.proofs.text.Tuple2Text.put_to.Goals as goal

pub returns-in_err-put_to : goal.returns-in_err-put_to
returns-in_err-put_to g c = writes_failed _ c.from_residual.ensures.0 (puts_sooner _ c.in_err-put_to.ensures)

pub returns : goal.returns
returns g c = puts_then c.in_ok-put_to.ensures c.put_to-2.ensures
