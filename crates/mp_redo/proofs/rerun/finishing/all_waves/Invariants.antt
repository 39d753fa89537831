use Rattle.std.proofs.Common.{◌≡◌, ◌+◌, drop, length, map, option_map}
use Rattle.std.specs.Arc.{arc_value}
use Rattle.std.specs.Vec.Iter.{into_iter_items, into_iter_len}
use Rattle.mp_netlist.specs.Circuit.{wire_at}
use Rattle.mp_model.specs.Waves.{slot_wave}
use Rattle.mp_partition.specs.runs.Outcomes.{AreSlots}
use Rattle.mp_redo.proofs.rerun.finishing.all_waves.Given as goal

-- the waves so far are those of their wires, and the others are left
abbrev pub invariant-loop-w : goal.invariant-loop-w
invariant-loop-w l = record {
  toggles : into_iter_items l.toggles ≡ drop l.w l.fn.simulation.bits.simulator.waves;
  toggles_left : into_iter_len l.toggles + l.w ≡ length l.change.new.now.wires;
  levels : into_iter_items l.levels ≡ drop l.w l.fn.simulation.wires.waves.items;
  levels_left : into_iter_len l.levels + l.w ≡ length l.change.new.now.wires;
  made : AreSlots l.w (λ w. slot_wave l.change.new.now w (wire_at l.change.new.now w)) (map (option_map arc_value) l.found.items);
}
