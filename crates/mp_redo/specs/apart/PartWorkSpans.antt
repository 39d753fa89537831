-- Work spans of the parts of a netlist, put together: the parts one after the other.
use Rattle.std.specs.Prelude.{◌≡◌, ℕ, ◌+◌, ◌<◌, ◌≤◌, List, [], ◌++◌, length}
use Rattle.mp_netlist.specs.Circuit.{Circuit, IsCircuit}
use Rattle.mp_netlist.specs.Delays.{least_delay}
use Rattle.mp_partition.specs.regions.Regions.{partition_of}
use Rattle.mp_depend.specs.declared.work.work_span.WorkSpan.{WorkSpan}
use Rattle.mp_depend.specs.work.Revisions.{IsRevision}
use Rattle.mp_depend.specs.work.Work.{IsEntry}
use Rattle.mp_depend.specs.work.WorkSpans.{work_span_at, IsIn, EndsWithWindow, HasBegun, AreWorkSpans}
use Rattle.mp_redo.specs.apart.Parts.{part_of, AreUnconnected}

-- all work of the modules that are at home in the parts below k is in just one of these work spans, and what is in one is such work
pub record AreWorkSpansBelow (old new : Circuit) (homes : List ℕ) (k : ℕ) (work_spans : List WorkSpan) : Type 0 where
  pub at_home : (j : ℕ) → j < length work_spans → partition_of homes (work_span_at work_spans j).«module».0 < k
  pub known : (m from to : ℕ) → partition_of homes m < k → IsEntry old new m from to → (j : ℕ) × IsIn new work_spans m from to j
  pub only : (m from to j : ℕ) → to ≤ new.horizon → IsIn new work_spans m from to j → IsEntry old new m from to
  pub once : (m from to i j : ℕ) → to ≤ new.horizon → IsIn new work_spans m from to i → IsIn new work_spans m from to j → i ≡ j
  pub begun : (j : ℕ) → j < length work_spans → HasBegun new new.horizon (work_span_at work_spans j)
  pub ends : (j : ℕ) → j < length work_spans → EndsWithWindow new (work_span_at work_spans j)

-- no part is below the first one
abbrev pub NoneAreBelow : Type 0
NoneAreBelow = (old new : Circuit) (homes : List ℕ) → AreWorkSpansBelow old new homes 0 []

-- with the work spans of the next part they are those of one part more
abbrev pub WorkSpansJoin : Type 0
WorkSpansJoin = (old new : Circuit) → IsCircuit old → IsCircuit new → IsRevision old new → (homes : List ℕ) → AreUnconnected old homes → AreUnconnected new homes →
    (k : ℕ) (below work_spans : List WorkSpan) → least_delay (part_of new homes k) ≡ least_delay new → AreWorkSpansBelow old new homes k below →
    AreWorkSpans (part_of old homes k) (part_of new homes k) work_spans → AreWorkSpansBelow old new homes (k + 1) (below ++ work_spans)

-- the work spans of all parts are those of the netlist
abbrev pub AllAreWorkSpans : Type 0
AllAreWorkSpans = (old new : Circuit) (homes : List ℕ) (parts : ℕ) (work_spans : List WorkSpan) → ((m : ℕ) → partition_of homes m < parts) →
    AreWorkSpansBelow old new homes parts work_spans → AreWorkSpans old new work_spans
