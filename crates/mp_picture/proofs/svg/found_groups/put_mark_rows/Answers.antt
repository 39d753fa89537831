use Rattle.std.proofs.Common.{◌≡◌, ℕ, ◌+◌, List, length, refl, arith}
use Rattle.mp_streams.proofs.OutLemmas.{puts_none, writes_failed}
use Rattle.mp_netlist.specs.Circuit.{Circuit}
use Rattle.mp_modules.specs.declared.finding_code.FindingCode.TheVariants.{MergeCollision}
use Rattle.mp_model.specs.Findings.{module_place}
use Rattle.mp_picture.specs.declared.svg.frame.Frame.{Frame}
use Rattle.mp_picture.specs.declared.svg.mark_rows.MarkRow.{MarkRow}
use Rattle.mp_picture.specs.svg.Frames.{lane}
use Rattle.mp_picture.specs.svg.FoundGroups.{mark_group}
use Rattle.mp_picture.proofs.lemmas.svg.RowLemmas.{rows_next, rows_stopped, rows_over}
use Rattle.mp_picture.proofs.svg.found_groups.put_mark_rows.Goals as goal

abbrev text : Circuit → Frame → ℕ × MarkRow → List ℕ
text n frame row = mark_group n (lane frame row.0) row.1

abbrev none : MarkRow
none = record { place = module_place 0; code = MergeCollision; last = 0 }

pub loop-index-init : goal.loop-index-init
loop-index-init g c = puts_none c.args.out.now

pub loop-index-preserved : goal.loop-index-preserved
loop-index-preserved g c =
    let i = c.loop-index.index in
    rows_next (text c.args.netlist.now c.args.frame) c.args.first c.args.rows.now i none (c.args.first + i) refl c.loop-index-test.true c.loop-index.invariant
    (rw c.lane-lane.ensures at c.in_ok-put_mark_row.ensures)

pub returns-in_err-put_mark_row : goal.returns-in_err-put_mark_row
returns-in_err-put_mark_row g c =
    let i = c.loop-index.index in
    writes_failed _ c.from_residual.ensures.0
    (rows_stopped (text c.args.netlist.now c.args.frame) c.args.first c.args.rows.now i none (c.args.first + i) refl c.loop-index-test.true c.loop-index.invariant
    (rw c.lane-lane.ensures at c.in_err-put_mark_row.ensures))

pub returns : goal.returns
returns g c =
    let i = c.loop-index.index in
    let over : i ≡ length c.args.rows.now = omega (arith, c.loop-index-test.false) in
    rows_over (text c.args.netlist.now c.args.frame) c.args.first c.args.rows.now i over c.loop-index.invariant
