-- Modules that join those that are evaluated again: their work spans are opened, and their overlays are their own.
use Rattle.std.specs.Prelude.{◌≡◌, ◌⊎◌, ℕ, ◌<◌, ◌≤◌, Bool, true, false, List, Option, Some, None, IsSome, length}
use Rattle.mp_records.specs.declared.module_record.ModuleRecord.{ModuleRecord}
use Rattle.mp_netlist.specs.Circuit.{Circuit, module_at}
use Rattle.mp_partition.specs.runs.Outcomes.{Outcome}
use Rattle.mp_depend.specs.declared.work.work_span.WorkSpan.{WorkSpan}
use Rattle.mp_depend.specs.work.WorkSpans.{work_span_at}
use Rattle.mp_depend.specs.declared.recording.checkpoint_overlay.CheckpointOverlay.{CheckpointOverlay}
use Rattle.mp_depend.specs.recording.Keeping.{IsOverlayAt}
use Rattle.mp_depend.specs.recording.Overlays.{overlay_at}
use Rattle.mp_depend.specs.recording.Live.{place_at}

-- the module stands and is live, and no work span of it has been opened yet
pub record HasNoWorkSpan (new : Circuit) (live : ℕ → Bool) (places : List (Option ℕ)) (m : ℕ) : Type 0 where
  pub stands : IsSome (module_at new m)
  pub on : live m ≡ true
  pub none : place_at places m ≡ None

-- the work span of a module from one time to another, and then on to the horizon
abbrev pub work_span_from : Circuit → ℕ → ℕ → ℕ → WorkSpan
work_span_from new m from to = record { «module» = record { 0 = m }; from = from; first_end = to; last_end = new.horizon }

-- a live module that had no work span has such a one at a place that isn't among the first ones
pub record HasNew (new : Circuit) (from to : ℕ) (live : ℕ → Bool) (places after : List (Option ℕ)) (first : ℕ) (opened : List WorkSpan) (m k : ℕ) : Type 0 where
  pub behind : first ≤ k
  pub within : k < length opened
  pub is : work_span_at opened k ≡ work_span_from new m from to
  pub place : place_at after m ≡ Some k
  pub joins : HasNoWorkSpan new live places m

-- behind the work spans that there were are those of live modules that had none, and each other module has the one that it had
pub record HaveOpened (new : Circuit) (from to : ℕ) (live : ℕ → Bool) (places after : List (Option ℕ)) (work_spans opened : List WorkSpan) : Type 0 where
  pub count : length after ≡ length places
  pub more : length work_spans ≤ length opened
  pub olds : (k : ℕ) → k < length work_spans → work_span_at opened k ≡ work_span_at work_spans k
  pub news : (k : ℕ) → length work_spans ≤ k → k < length opened → (m : ℕ) × HasNew new from to live places after (length work_spans) opened m k
  pub each : (m : ℕ) → (place_at after m ≡ place_at places m) ⊎ ((k : ℕ) × HasNew new from to live places after (length work_spans) opened m k)

-- a live module that had no work span has one, and its overlay can be given its states behind a block's begin
pub record HasJoined (new : Circuit) (run : Outcome) (block : ℕ) (live : ℕ → Bool) (places after : List (Option ℕ)) (m : ℕ) (overlay later : CheckpointOverlay) : Type 0 where
  pub joins : HasNoWorkSpan new live places m
  pub some : place_at after m ≡ None → ⊥
  pub takes : (r : ModuleRecord) → IsOverlayAt new run block m r false overlay → IsOverlayAt new run block m r true later

-- each module has joined so, or its work span and its overlay are as they were
pub record HaveJoined (new : Circuit) (run : Outcome) (block : ℕ) (live : ℕ → Bool) (places after : List (Option ℕ)) (overlays later : List CheckpointOverlay) : Type 0 where
  pub count : length later ≡ length overlays
  pub each : (m : ℕ) → ((place_at after m ≡ place_at places m) × (overlay_at later m ≡ overlay_at overlays m))
      ⊎ HasJoined new run block live places after m (overlay_at overlays m) (overlay_at later m)
