-- The states of a module that are kept after a change of its netlist, over those that the old run kept, if it did.
use Rattle.std.specs.Prelude.{◌≡◌, ℕ, ◌<◌, ◌≤◌, List, Option, Some, None, All, slice_index_or, nat_lt, if◌then◌else◌}
use Rattle.mp_modules.specs.declared.memory.Memory.{Memory}
use Rattle.mp_modules.specs.Memories.{blank}
use Rattle.mp_partition.specs.declared.runs.checkpoint.Checkpoint.{Checkpoint}
use Rattle.mp_partition.specs.runs.Checkpoints.{kept_at}
use Rattle.mp_depend.specs.declared.recording.checkpoint_overlay.CheckpointOverlay.{CheckpointOverlay}
use Rattle.mp_depend.specs.declared.recording.checkpoint_overlay.CheckpointOverlay.TheVariants.{Old, Own}

-- the state that is kept before the unit of a time, a blank one where none is
abbrev pub state_in : Option (List Checkpoint) → ℕ → Memory
state_in None c = blank
state_in (Some kept) c = kept_at kept c blank

-- the same of a overlay, over the states that the old run kept
abbrev pub overlay_state : CheckpointOverlay → Option (List Checkpoint) → ℕ → Memory
overlay_state Old old c = state_in old c
overlay_state (Own kept until) old c = if nat_lt c until then kept_at kept c blank else state_in old c

-- states are kept for times before this one
abbrev pub AreTimesBefore : ℕ → List Checkpoint → Type 0
AreTimesBefore time kept = All (λ (k : Checkpoint). k.time < time) kept

-- what is its own comes before what is the old run's
abbrev pub IsInOrder : CheckpointOverlay → Type 0
IsInOrder Old = Unit {0}
IsInOrder (Own kept until) = AreTimesBefore until kept

-- the overlay is its own up to an end at least, and keeps states for times before the time next alone
abbrev pub IsOwn : CheckpointOverlay → ℕ → ℕ → Type 0
IsOwn Old next end = ⊥
IsOwn (Own kept until) next end = AreTimesBefore next kept × (end ≤ until)

-- a list keeps states up to an end, and could keep more from there on
pub record KeepsTo (state : ℕ → Memory) (end : ℕ) (kept : List Checkpoint) : Type 0 where
  pub states : (c : ℕ) → c < end → kept_at kept c blank ≡ state c
  pub times : AreTimesBefore end kept

abbrev pub overlay_at : List CheckpointOverlay → ℕ → CheckpointOverlay
overlay_at overlays m = slice_index_or overlays m Old
