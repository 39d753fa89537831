use Rattle.std.proofs.Common.{◌≡◌, ◌<◌, ℕ, length}
use Rattle.mp_netlist.specs.Circuit.{stimulus_at}
use Rattle.mp_netlist.specs.Drivers.{stimulus_driver}
use Rattle.mp_depend.specs.Drivers.{driver_in}
use Rattle.mp_depend.proofs.drivers.portless_drivers.Given as goal

-- those so far
abbrev pub invariant-loop-w : goal.invariant-loop-w
invariant-loop-w l = record {
  places : length l.drivers.items ≡ l.w;
  each : (k : ℕ) → k < l.w → driver_in l.drivers.items k ≡ stimulus_driver (stimulus_at l.netlist k);
}
