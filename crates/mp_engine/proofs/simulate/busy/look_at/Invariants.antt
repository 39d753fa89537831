use Rattle.mp_simulation.specs.run.WavesRuns.{IsWavesRun}
use Rattle.mp_engine.proofs.simulate.busy.look_at.Given as goal

-- the units before the last look are over
abbrev pub invariant-loop-look : goal.invariant-loop-look
invariant-loop-look l = IsWavesRun l.netlist l.looks.to l.run
