use Rattle.std.proofs.Common.{◌≡◌, ◌-◌, ◌<◌, ◌≤◌}
use Rattle.mp_partition.specs.runs.Marks.{is_marked}
use Rattle.mp_engine.specs.region_runs.RegionRuns.{IsUnderWay}
use Rattle.mp_partition.specs.regions.Divisions.{heard_by}
use Rattle.mp_engine.proofs.part_of.PartOf.run_windows.Given as goal

-- the windows before are over
abbrev pub invariant-loop-from : goal.invariant-loop-from
invariant-loop-from g l = record {
  later : 0 < l.from;
  within : l.from ≤ l.horizon;
  horizon : l.horizon ≡ l.self.netlist.now.horizon;
  some : 0 < l.span;
  span : l.span ≤ l.division.delay;
  channels : l.channels.part ≡ l.self.part;
  under_way : IsUnderWay l.region l.self.keeps (is_marked (heard_by l.division.heard.items l.part)) (l.from - 1) l.from l.run;
}

abbrev pub decreases-loop-from : goal.decreases-loop-from
decreases-loop-from g l = l.horizon - l.from
