use Rattle.mp_streams.proofs.OutLemmas.{puts_next, puts_stopped, writes_failed}
use Rattle.mp_report.proofs.Names.{MergeCollision, Finding, module_place, finding_line}
use Rattle.mp_report.proofs.lines.put_report.Goals as goal

abbrev none : Finding
none = record { time = 0; place = module_place 0; code = MergeCollision }

pub returns-in_err-put_to : goal.returns-in_err-put_to
returns-in_err-put_to g c =
    writes_failed _ c.from_residual.ensures.0 (puts_stopped (finding_line c.args.netlist.now) _ c.loop-finding.finding-index none c.loop-finding-test.true c.loop-finding.invariant c.in_err-put_to.ensures)

pub loop-finding-preserved : goal.loop-finding-preserved
loop-finding-preserved g c =
    puts_next (finding_line c.args.netlist.now) _ c.loop-finding.finding-index none c.loop-finding-test.true c.loop-finding.invariant c.in_ok-put_to.ensures
