use Rattle.std.proofs.Common.{◌-◌, ◌<◌}
use Rattle.mp_simulation.specs.run.WavesRuns.{IsWavesRun}
use Rattle.mp_engine.proofs.simulate.finding.finished.Given as goal

-- the units before a time are over
abbrev pub invariant-loop-from : goal.invariant-loop-from
invariant-loop-from l = record {
  some : 0 < l.stretch;
  over : IsWavesRun l.netlist l.from l.run;
}

abbrev pub decreases-loop-from : goal.decreases-loop-from
decreases-loop-from l = l.horizon - l.from
