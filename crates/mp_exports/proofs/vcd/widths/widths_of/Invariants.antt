use Rattle.mp_exports.proofs.lemmas.vcd.Names.{◌≡◌, map, take, width_of}
use Rattle.mp_exports.proofs.vcd.widths.widths_of.Given as goal

-- the widths of the wires so far
abbrev pub invariant-loop-number : goal.invariant-loop-number
invariant-loop-number l = l.widths.items ≡ map width_of (take l.number l.netlist.wires)
