-- The changes of a wave, as it holds them.
use Rattle.std.specs.Prelude.{◌≤◌, ℕ, List}
use Rattle.mp_wave.specs.Waveform.{Waveform, IsWaveform}
use Rattle.mp_wave.specs.ToggleWaves.{toggle_changes}
use Rattle.mp_wave.specs.declared.held.Held as how
use Rattle.mp_wave.specs.declared.wave_changes.WaveChanges as seen
use Rattle.mp_wave.specs.declared.held.Held.TheVariants as holds
use Rattle.mp_wave.specs.declared.wave_changes.WaveChanges.TheVariants as lists

-- the changes that are listed
abbrev pub changes_in : seen.WaveChanges → List (ℕ × ℕ)
changes_in (lists.Toggles level times) = toggle_changes level times.now
changes_in (lists.ShortPairs pairs) = pairs.now
changes_in (lists.Pairs pairs) = pairs.now

-- the changes of a level that are held
abbrev pub held_changes : ℕ → how.Held → List (ℕ × ℕ)
held_changes initial (holds.Toggles times) = toggle_changes initial times.items
held_changes initial (holds.ShortPairs pairs) = pairs.items
held_changes initial (holds.Pairs pairs) = pairs.items

-- toggles are those of a level of 0 or 1
abbrev pub IsLow : ℕ → how.Held → Type 0
IsLow initial (holds.Toggles times) = initial ≤ 1
IsLow initial (holds.ShortPairs pairs) = Unit {0}
IsLow initial (holds.Pairs pairs) = Unit {0}

-- a level and its changes
abbrev pub held_wave : ℕ → how.Held → Waveform
held_wave initial held = record { initial = initial; changes = held_changes initial held }

-- they are those of a wave
pub record IsHeld (initial : ℕ) (held : how.Held) : Type 0 where
  pub form : IsWaveform (held_wave initial held)
  pub low : IsLow initial held
