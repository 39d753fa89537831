use Rattle.mp_exports.proofs.lemmas.vcd.Names.{drop, flat_map, standing, standing_from, part_line, Left}
use Rattle.mp_exports.proofs.vcd.preamble.WireLinesText.put_to.Given as goal

-- the lines of the wires from the number on are left
abbrev pub invariant-loop-number : goal.invariant-loop-number
invariant-loop-number g l =
    Left (flat_map (part_line l.self.netlist.now l.self.part) (standing l.self.netlist.now)) l.fn.out l.out (flat_map (part_line l.self.netlist.now l.self.part) (standing_from l.number (drop l.number l.self.netlist.now.wires)))
