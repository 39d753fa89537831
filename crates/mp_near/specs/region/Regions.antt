-- A region of a change, and the run of it.
use Rattle.std.specs.Prelude.{◌≡◌, ◌⊎◌, ℕ, ◌≤◌, List, [], length}
use Rattle.mp_netlist.specs.Circuit.{Circuit, IsCircuit}
use Rattle.mp_netlist.specs.Delays.{least_delay}
use Rattle.mp_partition.specs.runs.Outcomes.{Outcome}
use Rattle.mp_partition.specs.runs.Runs.{IsRun}
use Rattle.mp_depend.specs.declared.work.work_span.WorkSpan.{WorkSpan}
use Rattle.mp_near.specs.laws.Picking.{HasPicked, Picking}
use Rattle.mp_near.specs.laws.Regions.{AreRegion}
use Rattle.mp_near.specs.Changes.{IsChange}
use Rattle.mp_near.specs.reach.Numbers.{number_at}
use Rattle.mp_near.specs.region.Picks.{ArePicks, picking}
use Rattle.mp_near.specs.declared.revision.Revision.{Revision}
use Rattle.mp_near.specs.declared.region.picked.Picked.{Picked}
use Rattle.mp_near.specs.declared.region.small.Small.{Small}

-- the small netlist has just what is picked, and no slots beyond
pub record IsLike (n s : Circuit) (pick : Picking) (picked : Picked) (levels : ℕ → ℕ → ℕ) : Type 0 where
  pub has : HasPicked n s pick levels
  pub wires : length s.wires ≤ length picked.wires.numbers.items
  pub modules : length s.modules ≤ length picked.modules.numbers.items

-- the later netlist has no fewer slots
pub record IsNoSmaller (was now : Circuit) : Type 0 where
  pub wires : length was.wires ≤ length now.wires
  pub modules : length was.modules ≤ length now.modules

-- what is picked, before the change and after it
pub record IsSmall (old new : Circuit) (small : Small) : Type 0 where
  pub picks : ArePicks old new small.picked
  pub region : AreRegion old new small.was small.now (picking new small.picked)
  pub was : IsCircuit small.was
  pub now : IsCircuit small.now
  pub grown : IsNoSmaller small.was small.now
  pub wires : length small.was.wires ≤ length small.picked.wires.numbers.items
  pub modules : length small.was.modules ≤ length small.picked.modules.numbers.items

-- of a change and a region of it the run after it is known
pub record AreRuns (change : Revision) (small : Small) (found : Outcome) : Type 0 where
  pub known : IsChange change
  pub region : IsSmall change.old.now change.new.now small
  pub run : IsRun small.now found

-- the region has the least delay of its netlist, or no modules
abbrev pub HasLeast : Circuit → Small → Type 0
HasLeast new small = (small.picked.modules.numbers.items ≡ []) ⊎ (least_delay small.now ≡ least_delay new)

-- a work span with the number that its module has in the netlist
abbrev pub with_number : ℕ → List ℕ → WorkSpan → WorkSpan
with_number far numbers s = record s { «module» = record { 0 = number_at far numbers s.«module».0 } }
