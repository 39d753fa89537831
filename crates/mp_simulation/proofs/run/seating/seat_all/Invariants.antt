use Rattle.std.proofs.Common.{◌≡◌, length}
use Rattle.mp_simulation.specs.run.Seating.{IsSeated}
use Rattle.mp_simulation.proofs.run.seating.seat_all.Given as goal

-- the modules so far have their places
abbrev pub invariant-loop-m : goal.invariant-loop-m
invariant-loop-m l = record {
  seated : IsSeated l.netlist l.m l.inputs l.seating;
  units : length l.seating.wheel ≡ l.units;
}
