use Rattle.std.proofs.Common.{◌≡◌, ℕ, ◌+◌, ◌<◌, drop, length}
use Rattle.std.specs.Vec.Iter.{into_iter_items, into_iter_len}
use Rattle.mp_netlist.specs.Slots.{slot_at}
use Rattle.mp_netlist.specs.Circuit.{wire_at}
use Rattle.mp_model.specs.Waves.{slot_wave}
use Rattle.mp_simulation.proofs.run.finishing.found_waves.Given as goal

-- the waves so far are those of their wires
abbrev pub invariant-loop-w : goal.invariant-loop-w
invariant-loop-w l = record {
  toggles : into_iter_items l.toggles ≡ drop l.w l.fn.simulation.bits.simulator.waves;
  toggles_left : into_iter_len l.toggles + l.w ≡ length l.netlist.wires;
  levels : into_iter_items l.levels ≡ drop l.w l.fn.simulation.wires.waves.items;
  levels_left : into_iter_len l.levels + l.w ≡ length l.netlist.wires;
  count : length l.found.items ≡ l.w;
  each : (k : ℕ) → k < l.w → slot_at l.found.items k ≡ slot_wave l.netlist k (wire_at l.netlist k);
}
