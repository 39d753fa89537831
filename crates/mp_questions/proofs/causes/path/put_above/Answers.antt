use Rattle.mp_streams.proofs.OutLemmas.{puts_sooner, puts_then, writes_failed}
use Rattle.mp_questions.specs.causes.Paths.{before_line}
use Rattle.mp_questions.proofs.causes.path.put_above.Goals as goal

pub returns-in_err-put_shares : goal.returns-in_err-put_shares
returns-in_err-put_shares g c = writes_failed _ c.from_residual.ensures.0 (puts_sooner (before_line c.args.from c.args.begin) c.in_err-put_shares.ensures)

pub returns : goal.returns
returns g c = puts_then c.in_ok-put_shares.ensures c.put_before.ensures
