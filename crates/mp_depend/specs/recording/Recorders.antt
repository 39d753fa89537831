-- What is kept of a re-evaluation on its way.
use Rattle.std.specs.Prelude.{◌≡◌, ℕ, ◌+◌, ◌<◌, ◌^◌, Bool, Some, IsSome, length}
use Rattle.mp_netlist.specs.Circuit.{Circuit, module_at}
use Rattle.mp_partition.specs.runs.Outcomes.{Outcome}
use Rattle.mp_depend.specs.work.WorkSpans.{AreWorkSpansTo}
use Rattle.mp_depend.specs.declared.recording.rerun_recorder.RerunRecorder.{RerunRecorder}
use Rattle.mp_depend.specs.recording.Endings.{AreWhole}
use Rattle.mp_depend.specs.recording.Keeping.{AreOverlays}
use Rattle.mp_depend.specs.recording.Overlays.{overlay_at, IsInOrder, IsOwn}
use Rattle.mp_depend.specs.recording.Live.{place_at, AreOpen, IsListed}

-- before the unit t, where these modules are live: the states of each module before the borders up to a time of its own are kept, the
-- work spans are all work that ends up to t, those of live modules are open, and these are listed
pub record IsRecorder (old new : Circuit) (run : Outcome) (kept : ℕ → ℕ) (t : ℕ) (live : ℕ → Bool) (recorder : RerunRecorder) : Type 0 where
  pub overlays : AreOverlays new run kept live recorder.overlays.items
  pub worked : AreWorkSpansTo old new t recorder.work_spans.items
  pub opened : AreOpen new t live recorder.places.items recorder.work_spans.items
  pub listed : IsListed new live recorder.live.items

-- it is a recorder of this netlist's modules
pub record IsSound (n : Circuit) (recorder : RerunRecorder) : Type 0 where
  pub overlays : length recorder.overlays.items ≡ length n.modules
  pub places : length recorder.places.items ≡ length n.modules
  pub order : (m : ℕ) → IsSome (module_at n m) → IsInOrder (overlay_at recorder.overlays.items m)

-- the state of a module before a time can be kept
abbrev pub CanKeep : RerunRecorder → ℕ → ℕ → Type 0
CanKeep recorder m time = IsOwn (overlay_at recorder.overlays.items m) (time + 1) (time + 1)

-- a module whose state before a time can be kept has a work span
pub record CanLeave (recorder : RerunRecorder) (m time : ℕ) : Type 0 where
  pub keeps : CanKeep recorder m time
  pub last : time + 1 < 2 ^ 32
  pub place : ℕ
  pub at : place_at recorder.places.items m ≡ Some place
  pub within : place < length recorder.work_spans.items

-- the states of all modules before all borders are kept
abbrev pub IsOver : Circuit → Outcome → RerunRecorder → Type 0
IsOver new run recorder = AreWhole new run recorder.overlays.items
