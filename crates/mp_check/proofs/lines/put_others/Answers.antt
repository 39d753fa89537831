use Rattle.mp_streams.proofs.OutLemmas.{puts_next, puts_stopped, writes_failed}
use Rattle.mp_check.specs.CheckLines.{next_text}
use Rattle.mp_check.specs.declared.wait.Wait.{Wait}
use Rattle.mp_check.proofs.lines.put_others.Goals as goal

abbrev none : Wait
none = record { waiter = record { 0 = 0 }; wire = record { 0 = 0 }; next = 0 }

pub returns-in_err-put_next : goal.returns-in_err-put_next
returns-in_err-put_next g c =
    writes_failed _ c.from_residual.ensures.0 (puts_stopped (next_text c.args.netlist.now) _ c.loop-wait.wait-index none c.loop-wait-test.true c.loop-wait.invariant c.in_err-put_next.ensures)

pub loop-wait-preserved : goal.loop-wait-preserved
loop-wait-preserved g c = puts_next (next_text c.args.netlist.now) _ c.loop-wait.wait-index none c.loop-wait-test.true c.loop-wait.invariant c.in_ok-put_next.ensures
