use Rattle.std.proofs.Common.{◌≡◌, map, take}
use Rattle.mp_simulation.specs.run.FirstLevels.{first_building}
use Rattle.mp_simulation.proofs.run.first_levels.first_buildings.Given as goal

-- those so far
abbrev pub invariant-loop-w : goal.invariant-loop-w
invariant-loop-w l = l.waves.items ≡ map first_building (take l.w l.netlist.wires)
