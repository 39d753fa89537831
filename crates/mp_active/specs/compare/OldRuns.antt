-- The run of a netlist, as an old one.
use Rattle.std.specs.Prelude.{ℕ, ◌<◌, length}
use Rattle.mp_wave.specs.Waveform.{IsWaveform}
use Rattle.mp_wave.specs.Faults.{pair_at}
use Rattle.mp_netlist.specs.Circuit.{Circuit, IsCircuit}
use Rattle.mp_model.specs.Waves.{level}
use Rattle.mp_partition.specs.runs.Outcomes.{Outcome}
use Rattle.mp_partition.specs.runs.Runs.{IsRun}
use Rattle.mp_active.specs.compare.Comparing.{IsOldRun, old_changes, old_wave}

-- the levels of a netlist up to its horizon are those of its run; those of a wire that doesn't stand are 0, and it has no wave
abbrev pub RunsAreOld : Type 0
RunsAreOld = (n : Circuit) → IsCircuit n → (run : Outcome) → IsRun n run → (last : ℕ) → last < n.horizon → IsOldRun (level n) run last

-- what each wire has is a wave
abbrev pub RunsHaveWaves : Type 0
RunsHaveWaves = (n : Circuit) (run : Outcome) → IsRun n run → (w : ℕ) → IsWaveform (old_wave run w)

-- all its changes come before the horizon
abbrev pub RunsEnd : Type 0
RunsEnd = (n : Circuit) → IsCircuit n → (run : Outcome) → IsRun n run → (w k : ℕ) → k < length (old_changes run w) → (pair_at (old_changes run w) k).0 < n.horizon
