use Rattle.mp_streams.proofs.OutLemmas.{puts_next, puts_stopped, writes_failed}
use Rattle.mp_exports.specs.verilog.Verilog.{change_line}
use Rattle.mp_exports.proofs.verilog.bench.ChangeLinesText.put_to.Goals as goal

pub returns-in_err-put_change : goal.returns-in_err-put_change
returns-in_err-put_change g c =
    writes_failed _ c.from_residual.ensures.0
    (puts_stopped (change_line c.args.self.now.wire.now) _ c.loop-time.time-index (0, 0) c.loop-time-test.true c.loop-time.invariant c.in_err-put_change.ensures)

pub loop-time-preserved : goal.loop-time-preserved
loop-time-preserved g c =
    puts_next (change_line c.args.self.now.wire.now) _ c.loop-time.time-index (0, 0) c.loop-time-test.true c.loop-time.invariant c.in_ok-put_change.ensures
