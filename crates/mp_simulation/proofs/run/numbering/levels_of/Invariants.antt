use Rattle.std.proofs.Common.{◌≡◌, map, take}
use Rattle.mp_simulation.specs.run.Numbering.{level_of_wire}
use Rattle.mp_simulation.proofs.run.numbering.levels_of.Given as goal

-- those so far
abbrev pub invariant-loop-wire : goal.invariant-loop-wire
invariant-loop-wire l = l.levels.items ≡ map (level_of_wire l.netlist) (take l.wire-index l.wires)
