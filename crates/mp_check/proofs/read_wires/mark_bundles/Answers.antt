use Rattle.std.proofs.Common.{◌≡◌, ℕ, length, subst, arith}
use Rattle.mp_check.specs.ReadWires.{AreReadByBundles}
use Rattle.mp_check.proofs.ReadLemmas.{all_modules}
use Rattle.mp_check.proofs.read_wires.mark_bundles.Goals as goal

pub loop-number-init : goal.loop-number-init
loop-number-init c = all_modules c.args.netlist.now c.args.marks.now.items c.requires

pub returns : goal.returns
returns c =
    let n = c.args.netlist.now in
    let over : c.loop-number.number ≡ length n.bundles = omega (arith, c.bundle_slots-number-end.ensures.value) in
    subst (λ (b : ℕ). AreReadByBundles n b c.loop-number.marks.items) over c.loop-number.invariant
