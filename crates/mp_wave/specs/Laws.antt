-- What holds of all waveforms, and of the waves of a level over time.
use Rattle.std.specs.Prelude.{◌≡◌, ℕ, ◌+◌, ◌-◌, ◌<◌, ◌≤◌, ◌++◌}
use Rattle.mp_wave.specs.Waveform.{Waveform, IsWaveform, level_from, level_of, last_time, held_from, changes_after, wave_upto, between, kept_before}

-- waveforms with the same level at each time are the same
abbrev pub SameByLevels : Type 0
SameByLevels = (one other : Waveform) → IsWaveform one → IsWaveform other → ((t : ℕ) → level_of one t ≡ level_of other t) → one ≡ other

-- a level that is held from a time after all changes is the level from then on, and leaves those before
abbrev pub HoldsLevel : Type 0
HoldsLevel = (wave : Waveform) (time new t : ℕ) → IsWaveform wave → last_time 0 wave.changes < time →
    (t < time → level_of (held_from wave time new) t ≡ level_of wave t) × (time ≤ t → level_of (held_from wave time new) t ≡ new)

-- the wave of a level has that level, up to its last time
abbrev pub HasLevels : Type 0
HasLevels = (level : ℕ → ℕ) (n t : ℕ) → t ≤ n → level_of (wave_upto level n) t ≡ level t

-- the wave of a level is in form
abbrev pub IsInForm : Type 0
IsInForm = (level : ℕ → ℕ) (n : ℕ) → IsWaveform (wave_upto level n)

-- to hold the level of the next time is to go one time further
abbrev pub GrowsByHolding : Type 0
GrowsByHolding = (level : ℕ → ℕ) (n : ℕ) → held_from (wave_upto level n) (n + 1) (level (n + 1)) ≡ wave_upto level (n + 1)

-- the changes of two spans, one after the other, are those of both
abbrev pub JoinsChanges : Type 0
JoinsChanges = (level : ℕ → ℕ) (t m n : ℕ) → changes_after level t (m + n) ≡ changes_after level t m ++ changes_after level (t + m) n

-- a wave that is kept up to a time has its levels before that time, and then the last of them
abbrev pub KeepsLevels : Type 0
KeepsLevels = (wave : Waveform) (upto t : ℕ) → IsWaveform wave → 0 < upto →
    (t < upto → level_of (kept_before upto wave) t ≡ level_of wave t) × (upto ≤ t → level_of (kept_before upto wave) t ≡ level_of wave (upto - 1))

-- from a level at a time, the changes later than that give the levels up to an end
abbrev pub CutsLevels : Type 0
CutsLevels = (wave : Waveform) (from to t : ℕ) → IsWaveform wave → from ≤ t → t < to →
    level_from (level_of wave from) (between from to wave.changes) t ≡ level_of wave t
