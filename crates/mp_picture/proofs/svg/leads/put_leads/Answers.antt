use Rattle.std.proofs.Common.{ℕ, ◌+◌, List, length}
use Rattle.mp_modules.specs.declared.finding_code.FindingCode.TheVariants.{MergeCollision}
use Rattle.mp_streams.proofs.OutLemmas.{puts_next, puts_stopped, writes_failed}
use Rattle.mp_records.specs.declared.ids.WireId.{WireId}
use Rattle.mp_netlist.specs.Circuit.{Circuit}
use Rattle.mp_model.specs.declared.finding.Finding.{Finding}
use Rattle.mp_model.specs.Findings.{module_place}
use Rattle.mp_picture.specs.declared.svg.frame.Frame.{Frame}
use Rattle.mp_picture.specs.declared.svg.mark_rows.MarkRow.{MarkRow}
use Rattle.mp_picture.specs.svg.Frames.{lane}
use Rattle.mp_picture.specs.svg.FoundGroups.{lead, row_among}
use Rattle.mp_picture.proofs.svg.leads.put_leads.Goals as goal

abbrev text : Circuit → Frame → List WireId → List MarkRow → Finding → List ℕ
text n frame wires rows f = lead n frame wires (lane frame (length wires + row_among rows f)) f

abbrev none : Finding
none = record { time = 0; place = module_place 0; code = MergeCollision }

pub loop-finding-preserved : goal.loop-finding-preserved
loop-finding-preserved g c =
    puts_next (text c.args.netlist.now c.args.frame c.args.wires.now c.args.rows.now) _ c.loop-finding.finding-index none c.loop-finding-test.true c.loop-finding.invariant
    (rw (c.lane-lane.ensures, c.len-first.ensures, c.row_of.ensures.value) at c.in_ok-put_lead.ensures)

pub returns-in_err-put_lead : goal.returns-in_err-put_lead
returns-in_err-put_lead g c =
    writes_failed _ c.from_residual.ensures.0
    (puts_stopped (text c.args.netlist.now c.args.frame c.args.wires.now c.args.rows.now) _ c.loop-finding.finding-index none c.loop-finding-test.true c.loop-finding.invariant
    (rw (c.lane-lane.ensures, c.len-first.ensures, c.row_of.ensures.value) at c.in_err-put_lead.ensures))
