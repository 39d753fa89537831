use Rattle.mp_simulation.proofs.lemmas.run.NumberingLemmas.{AreCopiesBelow}
use Rattle.mp_simulation.specs.units.DataLevels.{is_data}
use Rattle.mp_simulation.proofs.run.numbering.data_copies.Given as goal

-- those so far
abbrev pub invariant-loop-x : goal.invariant-loop-x
invariant-loop-x l = AreCopiesBelow (is_data l.netlist) l.wires l.next l.x l.copies.items
