use Rattle.mp_streams.proofs.OutLemmas.{puts_next, puts_stopped, writes_failed}
use Rattle.mp_request.specs.explain.Explanations.{title_line}
use Rattle.mp_request.proofs.explain.explaining.put_titles.Goals as goal

pub returns-in_err-put_to : goal.returns-in_err-put_to
returns-in_err-put_to g c =
    writes_failed _ c.from_residual.ensures.0
    (puts_stopped title_line c.args.guide.now c.loop-entry.entry-index _ c.loop-entry-test.true c.loop-entry.invariant c.in_err-put_to.ensures)

pub loop-entry-preserved : goal.loop-entry-preserved
loop-entry-preserved g c = puts_next title_line c.args.guide.now c.loop-entry.entry-index _ c.loop-entry-test.true c.loop-entry.invariant c.in_ok-put_to.ensures
