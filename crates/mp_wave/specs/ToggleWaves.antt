-- Waves of wires of width 1, by the times at which they toggle.
use Rattle.std.specs.Prelude.{◌≡◌, ℕ, ◌-◌, ◌<◌, ◌≤◌, List, [], ◌∷◌, ◌++◌, ◌==◌, if◌then◌else◌, zero, suc, map}
use Rattle.mp_wave.specs.Waveform.{Waveform, last_from, wave_upto}

-- the changes after a level, at these times
abbrev pub toggle_changes : ℕ → List ℕ → List (ℕ × ℕ)
toggle_changes level [] = []
toggle_changes level (time ∷ times) = (time, 1 - level) ∷ toggle_changes (1 - level) times

-- the times of changes
abbrev pub times_of : List (ℕ × ℕ) → List ℕ
times_of changes = map (λ (c : ℕ × ℕ). c.0) changes

-- the level after so many toggles
abbrev pub level_after : ℕ → ℕ → ℕ
level_after level zero = level
level_after level (suc n) = level_after (1 - level) n

-- times that rise, after a time
abbrev pub AreTimes : ℕ → List ℕ → Type 0
AreTimes before [] = Unit {0}
AreTimes before (time ∷ times) = (before < time) × AreTimes time times

abbrev pub toggle_wave : ℕ → List ℕ → Waveform
toggle_wave level times = record { initial = level; changes = toggle_changes level times }

-- the wave with one more change, at a time
abbrev pub toggled_at : Waveform → ℕ → Waveform
toggled_at wave time = record { initial = wave.initial; changes = wave.changes ++ (time, 1 - last_from wave.initial wave.changes) ∷ [] }

-- the time after t, where a level changes there
abbrev pub time_after : (ℕ → ℕ) → ℕ → List ℕ
time_after level t = if level t == level (suc t) then [] else suc t ∷ []

-- the times up to the last at which a level changes
abbrev pub times_upto : (ℕ → ℕ) → ℕ → List ℕ
times_upto level zero = []
times_upto level (suc t) = times_upto level t ++ time_after level t

-- the times at which a level of one bit changes tell its wave
abbrev pub ToggleWavesAreWaves : Type 0
ToggleWavesAreWaves = (level : ℕ → ℕ) (last : ℕ) → ((t : ℕ) → level t ≤ 1) → toggle_wave (level 0) (times_upto level last) ≡ wave_upto level last
