-- A module is evaluated again no longer: its work span ends, and its overlay is handed back.
use Rattle.std.specs.Prelude.{◌≡◌, ◌≢◌, ℕ, true, false, List, length}
use Rattle.mp_records.specs.declared.module_record.ModuleRecord.{ModuleRecord}
use Rattle.mp_netlist.specs.Circuit.{Circuit}
use Rattle.mp_partition.specs.runs.Outcomes.{Outcome}
use Rattle.mp_depend.specs.declared.work.work_span.WorkSpan.{WorkSpan}
use Rattle.mp_depend.specs.work.WorkSpans.{work_span_at}
use Rattle.mp_depend.specs.declared.recording.checkpoint_overlay.CheckpointOverlay.{CheckpointOverlay}
use Rattle.mp_depend.specs.recording.Keeping.{IsOverlayAt}
use Rattle.mp_depend.specs.recording.Overlays.{overlay_at}

-- a work span that ends at a time
abbrev pub ended : WorkSpan → ℕ → WorkSpan
ended s time = record { «module» = s.«module»; from = s.from; first_end = s.first_end; last_end = time }

-- the work span at a place ends at a time, and the others are as they were
pub record HasEnded (work_spans after : List WorkSpan) (place time : ℕ) : Type 0 where
  pub places : length after ≡ length work_spans
  pub here : work_span_at after place ≡ ended (work_span_at work_spans place) time
  pub others : (k : ℕ) → k ≢ place → work_span_at after k ≡ work_span_at work_spans k

-- the module's overlay is that of one that is live no longer from a border on, and the others are as they were
pub record HasHandedBack (overlays after : List CheckpointOverlay) (m time : ℕ) : Type 0 where
  pub places : length after ≡ length overlays
  pub here : (new : Circuit) (run : Outcome) (r : ModuleRecord) → IsOverlayAt new run time m r true (overlay_at overlays m) → IsOverlayAt new run time m r false (overlay_at after m)
  pub others : (k : ℕ) → k ≢ m → overlay_at after k ≡ overlay_at overlays k
