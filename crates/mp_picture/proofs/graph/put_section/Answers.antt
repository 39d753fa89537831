use Rattle.std.proofs.Common.{◌≡◌, ◌<◌, arith}
use Rattle.mp_streams.proofs.OutLemmas.{puts_none, writes_failed}
use Rattle.mp_picture.specs.GraphSections.{slot_count, section_line}
use Rattle.mp_picture.proofs.PutLemmas.{numbers_next, numbers_stopped, numbers_over}
use Rattle.mp_picture.proofs.graph.put_section.Goals as goal

pub loop-number-init : goal.loop-number-init
loop-number-init g c = puts_none c.args.out.now

pub loop-number-preserved : goal.loop-number-preserved
loop-number-preserved g c =
    let n = c.args.wired.netlist.now in
    let s = c.args.section in
    let k = c.loop-number.number in
    let within : k < slot_count n s = omega (arith, c.slot_count-number-end.ensures) in
    numbers_next (section_line n s) (slot_count n s) k within c.loop-number.invariant c.in_ok-put_slot.ensures

pub returns-in_err-put_slot : goal.returns-in_err-put_slot
returns-in_err-put_slot g c =
    let n = c.args.wired.netlist.now in
    let s = c.args.section in
    let k = c.loop-number.number in
    let within : k < slot_count n s = omega (arith, c.slot_count-number-end.ensures) in
    writes_failed _ c.from_residual.ensures.0 (numbers_stopped (section_line n s) (slot_count n s) k within c.loop-number.invariant c.in_err-put_slot.ensures)

pub returns : goal.returns
returns g c =
    let n = c.args.wired.netlist.now in
    let s = c.args.section in
    let k = c.loop-number.number in
    let over : k ≡ slot_count n s = omega (arith, c.slot_count-number-end.ensures) in
    numbers_over (section_line n s) (slot_count n s) k over c.loop-number.invariant
