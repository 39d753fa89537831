use Rattle.std.proofs.Common.{◌≡◌, ◌<◌, length, arith}
use Rattle.std.specs.List.{range_with_len}
use Rattle.mp_streams.proofs.OutLemmas.{puts_none, writes_failed}
use Rattle.mp_questions.proofs.lemmas.causes.WhyLemmas.{puts_text}
use Rattle.mp_questions.proofs.lemmas.timing.PutLemmas.{numbers_next, numbers_stopped, numbers_over}
use Rattle.mp_check.specs.Over.{busy_note}
use Rattle.mp_check.specs.Selections.{keeps_bundle, selected}
use Rattle.mp_check.proofs.SelectedLemmas.{kept, kept_lines}
use Rattle.mp_check.proofs.busy.put_bundles.Goals as goal

pub loop-number-init : goal.loop-number-init
loop-number-init g c = puts_none c.args.out.now

pub loop-number-preserved : goal.loop-number-preserved
loop-number-preserved g c =
    let n = c.args.end.now.at.netlist.now in
    let k = c.loop-number.number in
    let within : k < length n.bundles = omega (arith, c.bundle_slots-number-end.ensures.value) in
    numbers_next (kept (keeps_bundle n (selected c.args.selection)) (busy_note n)) (length n.bundles) k within c.loop-number.invariant c.in_ok-put_bundle.ensures

pub returns-in_err-put_bundle : goal.returns-in_err-put_bundle
returns-in_err-put_bundle g c =
    let n = c.args.end.now.at.netlist.now in
    let keeps = keeps_bundle n (selected c.args.selection) in
    let k = c.loop-number.number in
    let within : k < length n.bundles = omega (arith, c.bundle_slots-number-end.ensures.value) in
    writes_failed _ c.from_residual.ensures.0
    (puts_text (kept_lines keeps (busy_note n) (range_with_len 0 (length n.bundles)))
    (numbers_stopped (kept keeps (busy_note n)) (length n.bundles) k within c.loop-number.invariant c.in_err-put_bundle.ensures))

pub returns : goal.returns
returns g c =
    let n = c.args.end.now.at.netlist.now in
    let keeps = keeps_bundle n (selected c.args.selection) in
    let k = c.loop-number.number in
    let over : k ≡ length n.bundles = omega (arith, c.bundle_slots-number-end.ensures.value) in
    puts_text (kept_lines keeps (busy_note n) (range_with_len 0 (length n.bundles))) (numbers_over (kept keeps (busy_note n)) (length n.bundles) k over c.loop-number.invariant)
