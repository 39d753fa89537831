-- The run of a netlist that gives its waves.
use Rattle.std.specs.Prelude.{ℕ, ◌-◌, ◌<◌, ◌≤◌}
use Rattle.mp_netlist.specs.Circuit.{Circuit}
use Rattle.mp_simulation.specs.units.NetlistSimulations.{IsSimulated}
use Rattle.mp_simulation.specs.declared.run.waves_run.AnySimulation.{AnySimulation}
use Rattle.mp_simulation.specs.declared.run.waves_run.AnySimulation.TheVariants.{Narrow, Wide}
use Rattle.mp_simulation.specs.declared.run.waves_run.WavesRun.{WavesRun}
use Rattle.mp_simulation.specs.run.Evaluations.{IsEvaluated}
use Rattle.mp_simulation.specs.run.Narrow.{IsNarrow}
use Rattle.mp_simulation.specs.run.Stimuli.{rest_of, AreAhead}

-- the unit t is over, by the simulation that there is
abbrev pub IsAnySimulated : Circuit → ℕ → AnySimulation → Type 0
IsAnySimulated n t (Narrow s) = IsNarrow n × IsEvaluated n t s
IsAnySimulated n t (Wide s) = IsSimulated n t s

-- the units before a time are over, and what stimuli set from then on is ahead
pub record IsWavesRun (n : Circuit) (to : ℕ) (run : WavesRun) : Type 0 where
  pub some : 0 < to
  pub within : to ≤ n.horizon
  pub simulated : IsAnySimulated n (to - 1) run.simulation
  pub ahead : AreAhead n (to - 1) (rest_of run.stimuli)
