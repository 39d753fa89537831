use Rattle.std.proofs.Common.{◌≡◌, take}
use Rattle.mp_simulation.specs.units.DataWaves.{pushed}
use Rattle.mp_simulation.proofs.units.data_wires.push_levels.Given as goal

-- the changes before have come to the waves
abbrev pub invariant-loop-change : goal.invariant-loop-change
invariant-loop-change l = l.waves.items ≡ pushed l.initial.waves.items l.time (take l.change-index l.changes)
