-- The states of all modules before all borders.
use Rattle.std.specs.Prelude.{◌≡◌, ℕ, ◌<◌, List, Option, Some, option_map, length}
use Rattle.mp_modules.specs.Memories.{blank}
use Rattle.mp_records.specs.declared.module_record.ModuleRecord.{ModuleRecord}
use Rattle.mp_netlist.specs.Slots.{slot_at}
use Rattle.mp_netlist.specs.Circuit.{Circuit, module_at}
use Rattle.mp_partition.specs.runs.Checkpoints.{kept_at, state_before, IsBorder}
use Rattle.mp_partition.specs.declared.runs.checkpoint.Checkpoint.{Checkpoint}
use Rattle.mp_partition.specs.runs.Outcomes.{Outcome}
use Rattle.mp_depend.specs.declared.recording.checkpoint_overlay.CheckpointOverlay.{CheckpointOverlay}
use Rattle.mp_depend.specs.recording.Overlays.{overlay_at, overlay_state, IsInOrder}

-- the overlay has the module's state before each border
pub record IsWhole (new : Circuit) (run : Outcome) (m : ℕ) (r : ModuleRecord) (overlay : CheckpointOverlay) : Type 0 where
  pub order : IsInOrder overlay
  pub states : (c : ℕ) → IsBorder new.horizon c → c < new.horizon → overlay_state overlay (slot_at run.kept m) c ≡ state_before new m r c

-- so it is of each module
pub record AreWhole (new : Circuit) (run : Outcome) (overlays : List CheckpointOverlay) : Type 0 where
  pub places : length overlays ≡ length new.modules
  pub each : (m : ℕ) (r : ModuleRecord) → module_at new m ≡ Some r → IsWhole new run m r (overlay_at overlays m)

-- what is kept of a module that stands are its states before the borders, and nothing is kept of another
abbrev pub HasCheckpoints : Circuit → ℕ → Option (List Checkpoint) → Type 0
HasCheckpoints new m kept = (c : ℕ) → IsBorder new.horizon c → c < new.horizon → option_map (λ ks. kept_at ks c blank) kept ≡ option_map (λ (r : ModuleRecord). state_before new m r c) (module_at new m)
