use Rattle.std.proofs.Common.{◌-◌, ◌<◌, ◌≤◌}
use Rattle.mp_simulation.specs.units.NetlistSimulations.{IsSimulated}
use Rattle.mp_simulation.specs.run.Stimuli.{rest_of, AreAhead}
use Rattle.mp_simulation.proofs.run.waves_run.run_all.Given as goal

-- the units before this one are over
abbrev pub invariant-loop-time : goal.invariant-loop-time
invariant-loop-time l = record {
  some : 0 < l.time;
  most : l.time ≤ l.to;
  simulated : IsSimulated l.netlist (l.time - 1) l.simulation;
  ahead : AreAhead l.netlist (l.time - 1) (rest_of l.stimuli);
}

abbrev pub decreases-loop-time : goal.decreases-loop-time
decreases-loop-time l = l.to - l.time
