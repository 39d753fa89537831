use Rattle.std.proofs.Common.{◌-◌, ◌<◌, ◌≤◌, ℕ, Bool}
use Rattle.mp_engine.specs.region_runs.RegionRuns.{IsUnderWay, CanRun}
use Rattle.mp_engine.proofs.region_runs.region_run.RegionRun.run_units.Given as goal

-- the units before this one are over
abbrev pub invariant-loop-time : goal.invariant-loop-time
invariant-loop-time g l = record {
  some : 0 < l.time;
  most : l.time ≤ l.to;
  can : CanRun l.region (l.time - 1) l.to l.self;
  over : (keeps : Bool) (is_heard : ℕ → Bool) (until : ℕ) → l.to ≤ until → IsUnderWay l.region keeps is_heard (l.from - 1) until l.fn.self → IsUnderWay l.region keeps is_heard (l.time - 1) until l.self;
}

abbrev pub decreases-loop-time : goal.decreases-loop-time
decreases-loop-time g l = l.to - l.time
