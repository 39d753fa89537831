use Rattle.mp_streams.proofs.OutLemmas.{puts_then, puts_sooner, writes_failed}
use Rattle.mp_check.specs.CheckLines.{wait_text}
use Rattle.mp_check.proofs.lines.put_next.Goals as goal

pub returns-in_err-put_text : goal.returns-in_err-put_text
returns-in_err-put_text g c = writes_failed _ c.from_residual.ensures.0 (puts_sooner (wait_text c.args.netlist.now c.args.wait) c.in_err-put_text.ensures)

pub returns : goal.returns
returns g c = puts_then c.in_ok-put_text.ensures c.put_wait.ensures
