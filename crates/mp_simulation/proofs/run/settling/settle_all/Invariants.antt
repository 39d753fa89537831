use Rattle.std.proofs.Common.{◌≡◌, length}
use Rattle.mp_simulation.specs.run.Settling.{IsSettled, AreFirstLevels}
use Rattle.mp_simulation.proofs.run.settling.settle_all.Given as goal

-- the modules so far are settled
abbrev pub invariant-loop-m : goal.invariant-loop-m
invariant-loop-m l = record {
  settled : IsSettled l.netlist l.m l.states.items l.wheel;
  levels : AreFirstLevels l.netlist l.m l.levels.items;
  units : length l.wheel ≡ l.units;
}
