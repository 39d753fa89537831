use Rattle.mp_simulation.proofs.lemmas.run.NumberingLemmas.{AreCopiesBelow}
use Rattle.mp_simulation.specs.run.Numbering.{is_bit}
use Rattle.mp_simulation.proofs.run.numbering.bit_copies.Given as goal

-- those so far
abbrev pub invariant-loop-x : goal.invariant-loop-x
invariant-loop-x l = AreCopiesBelow (is_bit l.netlist) l.wires l.next l.x l.copies.items
