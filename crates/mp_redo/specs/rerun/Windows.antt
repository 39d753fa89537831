-- A re-evaluation in a window of time.
use Rattle.std.specs.Prelude.{◌≡◌, ℕ, ◌+◌, ◌<◌, ◌≤◌, Bool, true, false, List, [], Some, length}
use Rattle.std.specs.List.{Contains}
use Rattle.mp_records.specs.declared.module_record.ModuleRecord.{ModuleRecord}
use Rattle.mp_netlist.specs.Circuit.{Circuit, module_at}
use Rattle.mp_model.specs.Reach.{IsApart, IsTouched}
use Rattle.mp_partition.specs.runs.Marks.{is_marked}
use Rattle.mp_partition.specs.runs.Outcomes.{Outcome}
use Rattle.mp_active.specs.compare.Comparing.{AreUnseen}
use Rattle.mp_depend.specs.work.Work.{block_of, IsWindow}
use Rattle.mp_depend.specs.recording.Recorders.{IsRecorder}
use Rattle.mp_depend.specs.recording.Live.{AreAtWork, HaveBecomeLive}
use Rattle.mp_redo.specs.declared.rerun.rerun.Rerun.{Rerun}
use Rattle.mp_redo.specs.rerun.Reruns.{active_of, IsRerunAt}

-- just the touched modules are marked, and any other that stands has one record in both netlists
pub record AreTouched (old new : Circuit) (marks : List Bool) : Type 0 where
  pub places : length marks ≡ length new.modules
  pub marked : (m : ℕ) → is_marked marks m ≡ true → IsTouched old new m
  pub others : (m : ℕ) (r : ModuleRecord) → module_at new m ≡ Some r → is_marked marks m ≡ false → module_at old m ≡ Some r

-- the unit t is over, in a window that begins at a time: since then these modules have joined, each when it was apart first, and those before are kept in
-- the recorder
pub record IsInWindow (old new : Circuit) (run : Outcome) (from t : ℕ) (s : Rerun) : Type 0 where
  pub is : IsRerunAt old new run (block_of new.horizon from) t s
  pub unseen : AreUnseen (t + 1) s.comparison
  pub touched : AreTouched old new s.activity.touched.items
  pub window : IsWindow new from s.window_end
  pub begun : from ≤ t + 1
  pub within : t < s.window_end
  pub live : ℕ → Bool
  pub work : AreAtWork old new (block_of new.horizon from) from live
  pub recorder : IsRecorder old new run (λ m. block_of new.horizon from) from live s.recorder
  pub joined : HaveBecomeLive new s.activity.joined.items live (active_of s)
  pub apart : (m : ℕ) → Contains s.activity.joined.items (record { 0 = m }) → (u : ℕ) × (from ≤ u) × (u ≤ t) × IsApart old new m u

-- the unit t is over, in some window
pub record IsUnderWay (old new : Circuit) (run : Outcome) (t : ℕ) (s : Rerun) : Type 0 where
  pub from : ℕ
  pub is : IsInWindow old new run from t s

-- the unit 0 is over, in the first window, in which just the active modules are at work
pub record IsBegun (old new : Circuit) (run : Outcome) (s : Rerun) : Type 0 where
  pub is : IsInWindow old new run 0 0 s
  pub work : AreAtWork old new (block_of new.horizon 0) 0 (active_of s)

-- a window begins behind the unit t: all that have joined are kept in the recorder
pub record IsAtWindow (old new : Circuit) (run : Outcome) (c t : ℕ) (s : Rerun) : Type 0 where
  pub is : IsRerunAt old new run c t s
  pub unseen : AreUnseen (t + 1) s.comparison
  pub touched : AreTouched old new s.activity.touched.items
  pub none : s.activity.joined.items ≡ []
  pub work : AreAtWork old new c (t + 1) (active_of s)
  pub recorder : IsRecorder old new run (λ m. c) (t + 1) (active_of s) s.recorder
