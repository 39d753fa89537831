use Rattle.std.proofs.Common.{ℕ, ◌+◌, List}
use Rattle.mp_modules.specs.declared.finding_code.FindingCode.TheVariants.{MergeCollision}
use Rattle.mp_streams.proofs.OutLemmas.{puts_next, puts_stopped, writes_failed}
use Rattle.mp_netlist.specs.Circuit.{Circuit}
use Rattle.mp_model.specs.declared.finding.Finding.{Finding}
use Rattle.mp_model.specs.Findings.{module_place}
use Rattle.mp_picture.specs.declared.svg.frame.Frame.{Frame}
use Rattle.mp_picture.specs.declared.svg.mark_rows.MarkRow.{MarkRow}
use Rattle.mp_picture.specs.svg.Frames.{lane}
use Rattle.mp_picture.specs.svg.FoundGroups.{finding_group, row_among}
use Rattle.mp_picture.proofs.svg.found_groups.put_findings.Goals as goal

abbrev text : Circuit → Frame → ℕ → List MarkRow → Finding → List ℕ
text n frame first rows f = finding_group n frame (lane frame (first + row_among rows f)) f

abbrev none : Finding
none = record { time = 0; place = module_place 0; code = MergeCollision }

pub loop-finding-preserved : goal.loop-finding-preserved
loop-finding-preserved g c =
    puts_next (text c.args.netlist.now c.args.frame c.args.first c.args.rows.now) _ c.loop-finding.finding-index none c.loop-finding-test.true c.loop-finding.invariant
    (rw (c.lane-lane.ensures, c.row_of.ensures.value) at c.in_ok-put_finding.ensures)

pub returns-in_err-put_finding : goal.returns-in_err-put_finding
returns-in_err-put_finding g c =
    writes_failed _ c.from_residual.ensures.0
    (puts_stopped (text c.args.netlist.now c.args.frame c.args.first c.args.rows.now) _ c.loop-finding.finding-index none c.loop-finding-test.true c.loop-finding.invariant
    (rw (c.lane-lane.ensures, c.row_of.ensures.value) at c.in_err-put_finding.ensures))
