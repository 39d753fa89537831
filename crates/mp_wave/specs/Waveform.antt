-- The levels of a wire over time.
use Rattle.std.specs.Prelude.{◌≢◌, ℕ, ◌+◌, ◌<◌, List, [], ◌∷◌, ◌++◌, nat_le, nat_lt, ◌==◌, if◌then◌else◌, suc, zero}
use Rattle.std.specs.List.{filter}

-- the level at time 0, and each later change as a time and the level from then on
pub record Waveform : Type 0 where
  pub initial : ℕ
  pub changes : List (ℕ × ℕ)

-- after a time with a level: times that rise, and each level another than the one before
abbrev pub AreChanges : ℕ → ℕ → List (ℕ × ℕ) → Type 0
AreChanges time level [] = Unit {0}
AreChanges time level (change ∷ changes) = (time < change.0) × (level ≢ change.1) × AreChanges change.0 change.1 changes

abbrev pub IsWaveform : Waveform → Type 0
IsWaveform wave = AreChanges 0 wave.initial wave.changes

-- the level at a time: that of the last change which isn't later, or the level before the changes
abbrev pub level_from : ℕ → List (ℕ × ℕ) → ℕ → ℕ
level_from level [] time = level
level_from level (change ∷ changes) time = if nat_le change.0 time then level_from change.1 changes time else level

abbrev pub level_of : Waveform → ℕ → ℕ
level_of wave time = level_from wave.initial wave.changes time

-- the level after all changes
abbrev pub last_from : ℕ → List (ℕ × ℕ) → ℕ
last_from level [] = level
last_from level (change ∷ changes) = last_from change.1 changes

-- the time of the last change, or the time before the changes
abbrev pub last_time : ℕ → List (ℕ × ℕ) → ℕ
last_time time [] = time
last_time time (change ∷ changes) = last_time change.0 changes

-- the wave with a level held from a time on
abbrev pub held_from : Waveform → ℕ → ℕ → Waveform
held_from wave time level =
    if last_from wave.initial wave.changes == level then wave
    else record { initial = wave.initial; changes = wave.changes ++ (time, level) ∷ [] }

-- the change of a level at the unit after a time, where it changes there
abbrev pub change_after : (ℕ → ℕ) → ℕ → List (ℕ × ℕ)
change_after level time = if level time == level (suc time) then [] else (suc time, level (suc time)) ∷ []

-- the changes of a level at the n units after a time
abbrev pub changes_after : (ℕ → ℕ) → ℕ → ℕ → List (ℕ × ℕ)
changes_after level time zero = []
changes_after level time (suc n) = changes_after level time n ++ change_after level (time + n)

-- the wave of a level over the times up to the last
abbrev pub wave_upto : (ℕ → ℕ) → ℕ → Waveform
wave_upto level last = record { initial = level 0; changes = changes_after level 0 last }

-- the changes later than a time
abbrev pub later_than : ℕ → List (ℕ × ℕ) → List (ℕ × ℕ)
later_than time changes = filter (λ change. nat_lt time change.0) changes

-- the changes earlier than a time
abbrev pub earlier_than : ℕ → List (ℕ × ℕ) → List (ℕ × ℕ)
earlier_than time changes = filter (λ change. nat_lt change.0 time) changes

-- the changes later than one time and earlier than another
abbrev pub between : ℕ → ℕ → List (ℕ × ℕ) → List (ℕ × ℕ)
between from to changes = earlier_than to (later_than from changes)

-- the wave up to a time, its last level before that time held
abbrev pub kept_before : ℕ → Waveform → Waveform
kept_before time wave = record { initial = wave.initial; changes = earlier_than time wave.changes }
