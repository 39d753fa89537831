-- The parts of a netlist that is divided, each on a thread of its own.
use Rattle.std.specs.Prelude.{◌≡◌, ℕ, ◌+◌, ◌<◌, Bool, List, length, slice_index_or}
use Rattle.mp_netlist.specs.Circuit.{Circuit}
use Rattle.mp_partition.specs.declared.regions.division.Division.{Division}
use Rattle.mp_partition.specs.regions.Regions.{region}
use Rattle.mp_partition.specs.regions.Divisions.{heard_by, IsCrossing, IsDivision}
use Rattle.mp_partition.specs.declared.merging.part_run.PartRun.{PartRun}
use Rattle.mp_partition.specs.merging.PartRuns.{IsPartRun, AreRuns}
use Rattle.mp_partition.specs.runs.Marks.{is_marked}
use Rattle.mp_engine.specs.declared.region_runs.region_run.RegionRun.{RegionRun}
use Rattle.mp_engine.specs.region_runs.RegionRuns.{IsUnderWay}
use Rattle.mp_engine.specs.declared.messages.message.Subject.{Ghosts}
use Rattle.mp_engine.specs.declared.messages.channels.Channels.{Channels}
use Rattle.mp_engine.specs.declared.part_of.PartOf.{PartOf}
use Rattle.mp_engine.specs.declared.part_of.Divided.{Divided}

-- the part is one of a netlist that is so divided, about which messages are
pub record IsPartOf (n : Circuit) (wires : List ℕ) (heards : List (List Bool)) (it : PartOf) : Type 0 where
  pub division : IsDivision it.netlist.now it.division.now.homes.items it.division.now.wires.items it.division.now.heard.items it.division.now.parts
  pub crossing : IsCrossing it.netlist.now it.division.now.heard.items it.division.now.delay
  pub netlist : it.netlist.now ≡ n
  pub wires_are : it.division.now.wires.items ≡ wires
  pub heards_are : it.division.now.heard.items ≡ heards

-- it is the first part
abbrev pub IsFirst : Circuit → List ℕ → List (List Bool) → PartOf → Type 0
IsFirst n wires heards it = IsPartOf n wires heards it × (it.part ≡ 0)

module _ {J : Type 0} {subject : Ghosts J} where
  -- the mail is the part's
  abbrev pub IsMailOf : Circuit → List ℕ → List (List Bool) → PartOf → Channels J subject → Type 0
  IsMailOf n wires heards it channels = IsPartOf n wires heards it × (channels.part ≡ it.part)

-- the netlist of the part
abbrev pub netlist_of : PartOf → Circuit
netlist_of it = region it.netlist.now it.division.now.homes.items it.part (heard_by it.division.now.heard.items it.part)

-- its run on the way: the unit t is over, and what is heard before a time is known
abbrev pub IsRunAt : PartOf → ℕ → ℕ → RegionRun → Type 0
IsRunAt it t until run = IsUnderWay (netlist_of it) it.keeps (is_marked (heard_by it.division.now.heard.items it.part)) t until run

-- the run of the part
abbrev pub IsRunOf : PartOf → PartRun → Type 0
IsRunOf it run = IsPartRun (netlist_of it) it.keeps run

-- what all parts give, of which this is one
abbrev pub ArePartRuns : PartOf → List PartRun → Type 0
ArePartRuns it runs = AreRuns it.netlist.now it.division.now.homes.items it.division.now.heard.items it.division.now.parts it.keeps runs

-- what all parts of a netlist that is so divided give
abbrev pub AreRunsOf : Divided → List PartRun → Type 0
AreRunsOf it runs = AreRuns it.netlist.now it.division.now.homes.items it.division.now.heard.items it.division.now.parts it.keeps runs

-- it is the part at a place of a list that begins with the last
pub record IsOther (n : Circuit) (division : Division) (keeps : Bool) (k : ℕ) (it : PartOf) : Type 0 where
  pub netlist : it.netlist.now ≡ n
  pub division_is : it.division.now ≡ division
  pub keeps_is : it.keeps ≡ keeps
  pub part : it.part + k + 1 ≡ division.parts

abbrev pub AreOthers : Circuit → Division → Bool → List PartOf → Type 0
AreOthers n division keeps others = (k : ℕ) (d : PartOf) → k < length others → IsOther n division keeps k (slice_index_or others k d)

-- the first part's run, and those that the others promise, are what all parts give
abbrev pub GiveRuns : PartRun → List PartOf → List PartRun → Type 0
GiveRuns first others runs = (n : Circuit) (division : Division) (keeps : Bool) → length others + 1 ≡ division.parts
    → IsPartRun (region n division.homes.items 0 (heard_by division.heard.items 0)) keeps first → AreOthers n division keeps others → AreRuns n division.homes.items division.heard.items division.parts keeps runs
