use Rattle.mp_redo.proofs.lemmas.parts.RemovalLemmas.{IsPartTo}
use Rattle.mp_redo.proofs.parts.part_netlist.part_netlist.Given as goal

-- those so far are removed
abbrev pub invariant-loop-m : goal.invariant-loop-m
invariant-loop-m l = IsPartTo l.netlist l.homes l.part l.m l.found
