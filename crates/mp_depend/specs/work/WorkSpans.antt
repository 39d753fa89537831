-- Work by work spans of time: a module works from one time to the end of a window, and then in each window up to a last end.
use Rattle.std.specs.Prelude.{◌≡◌, ◌⊎◌, ℕ, ◌+◌, ◌<◌, ◌≤◌, List, [], length, slice_index_or}
use Rattle.mp_netlist.specs.Circuit.{Circuit, IsCircuit}
use Rattle.mp_netlist.specs.Delays.{least_delay}
use Rattle.mp_depend.specs.declared.work.work_span.WorkSpan.{WorkSpan}
use Rattle.mp_depend.specs.work.Work.{window_end, IsWindow, IsEntry, ComesBefore, IsWork}
use Rattle.mp_depend.specs.work.Merges.{first_entry, entries_left}

-- the work span of no module
abbrev pub no_work_span : WorkSpan
no_work_span = record { «module» = record { 0 = 0 }; from = 0; first_end = 0; last_end = 0 }

abbrev pub work_span_at : List WorkSpan → ℕ → WorkSpan
work_span_at work_spans k = slice_index_or work_spans k no_work_span

-- its module works in the work span from one time to before another: at its begin, or in a later window
abbrev pub IsPart : Circuit → WorkSpan → ℕ → ℕ → Type 0
IsPart new s from to =
    ((from ≡ s.from) × (to ≡ s.first_end)) ⊎ (IsWindow new from to × (s.first_end ≤ from) × (to ≤ s.last_end))

-- the module works from one time to before another in this work span
pub record IsIn (new : Circuit) (work_spans : List WorkSpan) (m from to k : ℕ) : Type 0 where
  pub within : k < length work_spans
  pub part : (work_span_at work_spans k).«module».0 ≡ m
  pub at : IsPart new (work_span_at work_spans k) from to

-- it ends at the horizon, or where a window does
abbrev pub EndsWithWindow : Circuit → WorkSpan → Type 0
EndsWithWindow new s = (s.last_end ≡ new.horizon) ⊎ ((start : ℕ) × IsWindow new start s.last_end)

-- its first entry ends up to a time, or, before anything is evaluated, it begins with the first window
abbrev pub HasBegun : Circuit → ℕ → WorkSpan → Type 0
HasBegun new end s = (s.first_end ≤ end) ⊎ ((end ≡ 0) × (s.from ≡ 0) × (s.first_end ≡ window_end new 0))

-- all work that ends up to a time is in just one work span, and what is in one is work
pub record AreWorkSpansTo (old new : Circuit) (end : ℕ) (work_spans : List WorkSpan) : Type 0 where
  pub known : (m from to : ℕ) → to ≤ end → IsEntry old new m from to → (k : ℕ) × IsIn new work_spans m from to k
  pub only : (m from to k : ℕ) → to ≤ end → IsIn new work_spans m from to k → IsEntry old new m from to
  pub once : (m from to k j : ℕ) → to ≤ end → IsIn new work_spans m from to k → IsIn new work_spans m from to j → k ≡ j
  pub begun : (k : ℕ) → k < length work_spans → HasBegun new end (work_span_at work_spans k)
  pub ends : (k : ℕ) → k < length work_spans → EndsWithWindow new (work_span_at work_spans k)

-- so it is of all work
abbrev pub AreWorkSpans : Circuit → Circuit → List WorkSpan → Type 0
AreWorkSpans old new work_spans = AreWorkSpansTo old new new.horizon work_spans

-- their first entries are in order
abbrev pub AreInOrder : List WorkSpan → Type 0
AreInOrder work_spans = (k : ℕ) → k + 1 < length work_spans → ComesBefore (first_entry (work_span_at work_spans k)) (first_entry (work_span_at work_spans (k + 1)))

-- then the entries of work spans of all work are all work, in order
abbrev pub WorkSpansAreWork : Type 0
WorkSpansAreWork = (old new : Circuit) → IsCircuit new → (work_spans : List WorkSpan) → AreWorkSpans old new work_spans → AreInOrder work_spans →
    IsWork old new (entries_left (least_delay new) new.horizon [] work_spans)
