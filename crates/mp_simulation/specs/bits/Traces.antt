-- What is kept of the changes of a wire of any width.
use Rattle.std.specs.Prelude.{◌≡◌, ℕ, ◌≤◌, map}
use Rattle.mp_wave.specs.Waveform.{Waveform, wave_upto}
use Rattle.mp_wave.specs.ToggleWaves.{times_upto}

abbrev pub time_of : ℕ × ℕ → ℕ
time_of change = change.0

-- a wave has the times at which a level changes up to t, and where that is a level of one bit it is the level's wave
pub record IsTrace (level : ℕ → ℕ) (t : ℕ) (wave : Waveform) : Type 0 where
  pub times : map time_of wave.changes ≡ times_upto level t
  pub whole : ((u : ℕ) → level u ≤ 1) → wave ≡ wave_upto level t
