use Rattle.mp_check.specs.ReadWires.{AreReadByBundles}
use Rattle.mp_check.proofs.read_wires.mark_bundles.Given as goal

-- what the bundles so far name
abbrev pub invariant-loop-number : goal.invariant-loop-number
invariant-loop-number l = AreReadByBundles l.netlist l.number l.marks.items
