use Rattle.std.proofs.Common.{◌≡◌, ◌<◌, ℕ, length, map, option_map}
use Rattle.std.specs.Arc.{arc_value}
use Rattle.mp_netlist.specs.Slots.{slot_at}
use Rattle.mp_depend.specs.recording.Endings.{HasCheckpoints}
use Rattle.mp_redo.specs.parts.Changes.{old_part}
use Rattle.mp_redo.proofs.parts.part_run.part_checkpoints.Given as goal

-- those so far
abbrev pub invariant-loop-m : goal.invariant-loop-m
invariant-loop-m l = record {
  places : length l.kept.items ≡ l.m;
  each : (k : ℕ) → k < l.m → HasCheckpoints (old_part l.change l.part) k (slot_at (map (option_map arc_value) l.kept.items) k);
}
