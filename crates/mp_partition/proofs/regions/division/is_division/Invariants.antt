use Rattle.std.proofs.Common.{ℕ, ◌<◌}
use Rattle.mp_partition.specs.regions.Divisions.{IsAtHome}
use Rattle.mp_partition.proofs.regions.division.is_division.Given as goal

-- those so far
abbrev pub invariant-loop-m : goal.invariant-loop-m
invariant-loop-m l = (m : ℕ) → m < l.m → IsAtHome l.netlist l.division.homes.items l.division.wires.items l.division.heard.items l.division.parts m
