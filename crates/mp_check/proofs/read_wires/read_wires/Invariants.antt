use Rattle.mp_check.specs.ReadWires.{AreReadByModules}
use Rattle.mp_check.proofs.read_wires.read_wires.Given as goal

-- what the modules so far read
abbrev pub invariant-loop-number : goal.invariant-loop-number
invariant-loop-number l = AreReadByModules l.netlist l.number l.marks.items
