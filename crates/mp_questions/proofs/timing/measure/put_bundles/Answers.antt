use Rattle.std.proofs.Common.{◌≡◌, ◌<◌, length, Vec, Global, ap, ◌∙◌, arith}
use Rattle.mp_streams.proofs.OutLemmas.{puts_none, writes_failed}
use Rattle.mp_questions.specs.timing.Measures.{bundle_measure}
use Rattle.mp_questions.specs.declared.late.late.Late.{Late}
use Rattle.mp_questions.proofs.lemmas.late.ListLemmas.{list_at, list_count}
use Rattle.mp_questions.proofs.lemmas.timing.PutLemmas.{numbers_next, numbers_stopped, numbers_over}
use Rattle.mp_questions.proofs.timing.measure.put_bundles.Goals as goal

pub loop-number-init : goal.loop-number-init
loop-number-init g c = puts_none c.args.out.now

pub loop-number-preserved : goal.loop-number-preserved
loop-number-preserved g c =
    let n = c.args.netlist.now in
    let k = c.loop-number.number in
    let within : k < length n.bundles = omega (arith, c.bundle_slots-number-end.ensures.value) in
    numbers_next (bundle_measure n c.args.units.from c.args.units.to) (length n.bundles) k within c.loop-number.invariant c.in_ok-put_slot.ensures

pub returns-in_err-put_slot : goal.returns-in_err-put_slot
returns-in_err-put_slot g c =
    let n = c.args.netlist.now in
    let k = c.loop-number.number in
    let within : k < length n.bundles = omega (arith, c.bundle_slots-number-end.ensures.value) in
    writes_failed _ c.from_residual.ensures.0 (numbers_stopped (bundle_measure n c.args.units.from c.args.units.to) (length n.bundles) k within c.loop-number.invariant c.in_err-put_slot.ensures)

pub returns : goal.returns
returns g c =
    let n = c.args.netlist.now in
    let k = c.loop-number.number in
    let over : k ≡ length n.bundles = omega (arith, c.bundle_slots-number-end.ensures.value) in
    numbers_over (bundle_measure n c.args.units.from c.args.units.to) (length n.bundles) k over c.loop-number.invariant

pub bounds-late-number : goal.bounds-late-number
bounds-late-number g c =
    let n = c.args.netlist.now in
    let within : c.loop-number.number < length n.bundles = omega (arith, c.loop-number-test.true, c.bundle_slots-number-end.ensures.value) in
    omega (arith, within, list_count n c.args.late.now c.requires.late)

pub put_slot-requires-clause-late : goal.put_slot-requires-clause-late
put_slot-requires-clause-late g c =
    let n = c.args.netlist.now in
    let k = c.loop-number.number in
    let within : k < length n.bundles = omega (arith, c.loop-number-test.true, c.bundle_slots-number-end.ensures.value) in
    c.as_slice-late.ensures.value
    ∙ ap (λ (list : Vec Late Global). list.items) c.index-late-number.is
    ∙ list_at n c.args.late.now c.requires.late k c.index-late-number.result within
