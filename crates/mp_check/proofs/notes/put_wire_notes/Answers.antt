use Rattle.std.proofs.Common.{◌≡◌, ◌<◌, length, arith}
use Rattle.mp_streams.proofs.OutLemmas.{puts_none, writes_failed}
use Rattle.mp_questions.proofs.lemmas.timing.PutLemmas.{numbers_next, numbers_stopped, numbers_over}
use Rattle.mp_check.specs.Notes.{wire_note}
use Rattle.mp_check.proofs.notes.put_wire_notes.Goals as goal

pub loop-number-init : goal.loop-number-init
loop-number-init g c = puts_none c.args.out.now

pub loop-number-preserved : goal.loop-number-preserved
loop-number-preserved g c =
    let n = c.args.end.now.at.netlist.now in
    let k = c.loop-number.number in
    let within : k < length n.wires = omega (arith, c.wire_slots-number-end.ensures.value) in
    numbers_next (wire_note n) (length n.wires) k within c.loop-number.invariant c.in_ok-put_wire.ensures

pub returns-in_err-put_wire : goal.returns-in_err-put_wire
returns-in_err-put_wire g c =
    let n = c.args.end.now.at.netlist.now in
    let k = c.loop-number.number in
    let within : k < length n.wires = omega (arith, c.wire_slots-number-end.ensures.value) in
    writes_failed _ c.from_residual.ensures.0 (numbers_stopped (wire_note n) (length n.wires) k within c.loop-number.invariant c.in_err-put_wire.ensures)

pub returns : goal.returns
returns g c =
    let n = c.args.end.now.at.netlist.now in
    let k = c.loop-number.number in
    let over : k ≡ length n.wires = omega (arith, c.wire_slots-number-end.ensures.value) in
    numbers_over (wire_note n) (length n.wires) k over c.loop-number.invariant
