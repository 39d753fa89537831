-- The states that are kept while modules are evaluated again, of which some are live.
use Rattle.std.specs.Prelude.{◌≡◌, ◌≢◌, ◌⊎◌, ℕ, ◌+◌, ◌<◌, ◌≤◌, Bool, true, false, List, Option, Some, length}
use Rattle.mp_modules.specs.declared.memory.Memory.{Memory}
use Rattle.mp_records.specs.declared.module_record.ModuleRecord.{ModuleRecord}
use Rattle.mp_netlist.specs.Slots.{slot_at}
use Rattle.mp_netlist.specs.Circuit.{Circuit, module_at}
use Rattle.mp_partition.specs.declared.runs.checkpoint.Checkpoint.{Checkpoint}
use Rattle.mp_partition.specs.runs.Checkpoints.{state_before, IsBorder}
use Rattle.mp_partition.specs.runs.Outcomes.{Outcome}
use Rattle.mp_depend.specs.declared.recording.checkpoint_overlay.CheckpointOverlay.{CheckpointOverlay}
use Rattle.mp_depend.specs.recording.Overlays.{state_in, overlay_state, overlay_at, IsInOrder, IsOwn}

-- the overlay has the module's states before the borders up to t; behind t it can keep states where the module is live, and is the old
-- run's where it isn't
pub record IsOverlayAt (new : Circuit) (run : Outcome) (t m : ℕ) (r : ModuleRecord) (live : Bool) (overlay : CheckpointOverlay) : Type 0 where
  pub right : (c : ℕ) → IsBorder new.horizon c → c ≤ t → c < new.horizon → overlay_state overlay (slot_at run.kept m) c ≡ state_before new m r c
  pub order : IsInOrder overlay
  pub ready : live ≡ true → IsOwn overlay (t + 1) new.horizon
  pub follows : live ≡ false → (c : ℕ) → t < c → overlay_state overlay (slot_at run.kept m) c ≡ state_in (slot_at run.kept m) c

-- a overlay for each module, which has its states before the borders up to a time of its own
pub record AreOverlays (new : Circuit) (run : Outcome) (kept : ℕ → ℕ) (live : ℕ → Bool) (overlays : List CheckpointOverlay) : Type 0 where
  pub places : length overlays ≡ length new.modules
  pub each : (m : ℕ) (r : ModuleRecord) → module_at new m ≡ Some r → IsOverlayAt new run (kept m) m r (live m) (overlay_at overlays m)

-- from a time on a overlay has this state, as far as it can be given states, and before it those that it had
pub record HasKept (time : ℕ) (memory : Memory) (overlay after : CheckpointOverlay) : Type 0 where
  pub own : (end : ℕ) → IsOwn overlay (time + 1) end → IsOwn after (time + 1) end
  pub before : (old : Option (List Checkpoint)) (c : ℕ) → c < time → overlay_state after old c ≡ overlay_state overlay old c
  pub state : (old : Option (List Checkpoint)) (c : ℕ) → time ≤ c → IsOwn overlay (time + 1) (c + 1) → overlay_state after old c ≡ memory

-- a later border is the next one
pub record IsNextBorder (new : Circuit) (t time : ℕ) : Type 0 where
  pub later : t < time
  pub below : time < new.horizon
  pub none : (b : ℕ) → IsBorder new.horizon b → t < b → b < time → ⊥

-- the old run kept the state before the unit of a time of each module that stands and isn't live
abbrev pub AreOldStates : Circuit → Outcome → ℕ → (ℕ → Bool) → Type 0
AreOldStates new run time live = (m : ℕ) (r : ModuleRecord) → module_at new m ≡ Some r → live m ≡ false → state_in (slot_at run.kept m) time ≡ state_before new m r time

-- this is a live module's state before a border, which is the next one or that up to which its states are kept; up to there they are kept then
pub record KeepsState (new : Circuit) (live : ℕ → Bool) (kept later : ℕ → ℕ) (m time : ℕ) (memory : Memory) : Type 0 where
  pub part : ModuleRecord
  pub stands : module_at new m ≡ Some part
  pub on : live m ≡ true
  pub state : memory ≡ state_before new m part time
  pub border : IsNextBorder new (kept m) time ⊎ (kept m ≡ time)
  pub below : time < new.horizon
  pub here : later m ≡ time
  pub others : (k : ℕ) → k ≢ m → later k ≡ kept k
