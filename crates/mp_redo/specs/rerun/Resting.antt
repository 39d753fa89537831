-- Inputs that rest in the old run.
use Rattle.std.specs.Prelude.{◌≡◌, ℕ, ◌+◌, ◌-◌, ◌<◌, ◌≤◌}
use Rattle.mp_wave.specs.Waveform.{level_of}
use Rattle.mp_records.specs.declared.ports.Input.{Input}
use Rattle.mp_partition.specs.runs.Outcomes.{Outcome}
use Rattle.mp_active.specs.compare.Comparing.{old_wave}

-- what was at an input in the old run stays as it was right before a time up to before another
abbrev pub HasRested : Outcome → ℕ → ℕ → Input → Type 0
HasRested run from to input = (t : ℕ) → from ≤ t + 1 → t < to → level_of (old_wave run input.wire.0) (t - input.delay) ≡ level_of (old_wave run input.wire.0) (from - 1 - input.delay)
