use Rattle.std.proofs.Common.{◌≡◌, ◌≤◌, ◌<◌, ℕ, Some, length, map, option_map}
use Rattle.std.specs.Arc.{arc_value}
use Rattle.mp_records.specs.declared.module_record.ModuleRecord.{ModuleRecord}
use Rattle.mp_netlist.specs.Slots.{slot_at}
use Rattle.mp_netlist.specs.Circuit.{module_at}
use Rattle.mp_depend.specs.recording.Endings.{IsWhole, HasCheckpoints}
use Rattle.mp_depend.specs.recording.Overlays.{overlay_at}
use Rattle.mp_depend.proofs.recording.finished.finished_overlays.Given as goal

-- those so far, and the others are left
abbrev pub invariant-loop-m : goal.invariant-loop-m
invariant-loop-m l = record {
  places : length l.left.items ≡ length l.new.modules;
  size : length l.found.items ≡ l.m;
  made : (k : ℕ) → k < l.m → HasCheckpoints l.new k (slot_at (map (option_map arc_value) l.found.items) k);
  left : (k : ℕ) (r : ModuleRecord) → l.m ≤ k → module_at l.new k ≡ Some r → IsWhole l.new l.run k r (overlay_at l.left.items k);
}
