use Rattle.std.proofs.Common.{◌≡◌, ℕ, List, length, refl, sym, zero-add, arith}
use Rattle.mp_streams.proofs.OutLemmas.{puts_none, puts_as}
use Rattle.mp_records.specs.declared.ids.WireId.{WireId}
use Rattle.mp_netlist.specs.Circuit.{Circuit}
use Rattle.mp_picture.specs.declared.svg.frame.Frame.{Frame}
use Rattle.mp_picture.specs.svg.Svg.{wire_row}
use Rattle.mp_picture.proofs.lemmas.svg.RowLemmas.{rows_next, rows_stopped, rows_over}
use Rattle.mp_picture.proofs.svg.svg.put_wires.Goals as goal

abbrev text : Circuit → Frame → ℕ × WireId → List ℕ
text n frame row = wire_row n frame row.0 row.1

abbrev none : WireId
none = record { 0 = 0 }

pub loop-row-init : goal.loop-row-init
loop-row-init g c = puts_none c.args.out.now

pub loop-row-preserved : goal.loop-row-preserved
loop-row-preserved g c =
    let i = c.loop-row.row in
    rows_next (text c.args.picture.now.netlist.now c.args.frame) 0 c.args.picture.now.wires.now i none i (sym (zero-add i)) c.loop-row-test.true c.loop-row.invariant c.in_ok-put_wire.ensures

pub returns-in_err-put_wire : goal.returns-in_err-put_wire
returns-in_err-put_wire g c =
    let i = c.loop-row.row in
    puts_as _ c.in_err-put_wire.field-0.0 c.from_residual.ensures.1 refl
    (rows_stopped (text c.args.picture.now.netlist.now c.args.frame) 0 c.args.picture.now.wires.now i none i (sym (zero-add i)) c.loop-row-test.true c.loop-row.invariant
    c.in_err-put_wire.ensures)

pub returns : goal.returns
returns g c =
    let i = c.loop-row.row in
    let over : i ≡ length c.args.picture.now.wires.now = omega (arith, c.loop-row-test.false) in
    rows_over (text c.args.picture.now.netlist.now c.args.frame) 0 c.args.picture.now.wires.now i over c.loop-row.invariant
