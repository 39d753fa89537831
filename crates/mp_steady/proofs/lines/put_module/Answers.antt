use Rattle.mp_streams.proofs.OutLemmas.{puts_sooner, puts_then, writes_failed}
use Rattle.mp_questions.specs.causes.Paths.{share_line}
use Rattle.mp_steady.proofs.lines.put_module.Goals as goal

pub returns-in_err-put_text : goal.returns-in_err-put_text
returns-in_err-put_text g c = writes_failed _ c.from_residual.ensures.0 (puts_sooner (share_line c.args.netlist.now c.args.share) c.in_err-put_text.ensures)

pub returns : goal.returns
returns g c = puts_then c.in_ok-put_text.ensures c.put_share.ensures
