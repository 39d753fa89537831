-- The work spans of a region are those of its netlist, by the numbers that its modules have there.
use Rattle.std.specs.Prelude.{◌≡◌, List, map}
use Rattle.mp_netlist.specs.Circuit.{Circuit, IsCircuit}
use Rattle.mp_netlist.specs.Delays.{least_delay}
use Rattle.mp_depend.specs.declared.work.work_span.WorkSpan.{WorkSpan}
use Rattle.mp_depend.specs.work.Revisions.{IsRevision}
use Rattle.mp_depend.specs.work.WorkSpans.{AreWorkSpans}
use Rattle.mp_near.specs.laws.Picking.{Picking}
use Rattle.mp_near.specs.laws.Regions.{AreRegion, Stays}

-- a work span of the region, with the number that its module has in the netlist
abbrev pub with_old_number : Picking → WorkSpan → WorkSpan
with_old_number pick s = record s { «module» = record { 0 = pick.module_of s.«module».0 } }

-- work spans of all work of the region are so work spans of all work of the netlist, if both have one least delay and outside no other level is read
abbrev pub RegionsHaveWorkSpans : Type 0
RegionsHaveWorkSpans = (old new was now : Circuit) (pick : Picking) → IsCircuit old → IsCircuit new → IsCircuit was → IsCircuit now → IsRevision old new →
    AreRegion old new was now pick → least_delay now ≡ least_delay new → Stays old new now pick new.horizon →
    (work_spans : List WorkSpan) → AreWorkSpans was now work_spans → AreWorkSpans old new (map (with_old_number pick) work_spans)
