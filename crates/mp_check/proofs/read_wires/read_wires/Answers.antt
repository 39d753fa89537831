use Rattle.std.proofs.Common.{◌≡◌, ℕ, length, subst, arith}
use Rattle.mp_check.specs.ReadWires.{AreReadByModules}
use Rattle.mp_check.proofs.ReadLemmas.{all_read}
use Rattle.mp_check.proofs.read_wires.read_wires.Goals as goal

pub mark_bundles-requires : goal.mark_bundles-requires
mark_bundles-requires c =
    let n = c.args.netlist.now in
    let over : c.loop-number.number ≡ length n.modules = omega (arith, c.module_slots-number-end.ensures.value) in
    subst (λ (m : ℕ). AreReadByModules n m c.loop-number.marks.items) over c.loop-number.invariant

pub returns : goal.returns
returns c = all_read c.args.netlist.now c.mark_bundles.new.marks.items c.mark_bundles.ensures
