-- A run that is looked at early.
use Rattle.std.specs.Prelude.{ℕ, ◌-◌, ◌<◌, ◌≤◌, true, []}
use Rattle.mp_netlist.specs.Circuit.{Circuit}
use Rattle.mp_partition.specs.runs.Marks.{is_marked}
use Rattle.mp_engine.specs.declared.region_runs.region_run.RegionRun.{RegionRun}
use Rattle.mp_engine.specs.region_runs.RegionRuns.{IsUnderWay}

-- it is a run of a whole netlist, of which all states are kept, and the units before a time are over
pub record IsLookedAt (n : Circuit) (to : ℕ) (run : RegionRun) : Type 0 where
  pub some : 0 < to
  pub within : to ≤ n.horizon
  pub over : IsUnderWay n true (is_marked []) (to - 1) n.horizon run
