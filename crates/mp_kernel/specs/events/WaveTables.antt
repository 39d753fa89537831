-- The waves of wires, of which some toggles wait in lists, one a share of the wires.
use Rattle.std.specs.Prelude.{◌≡◌, ℕ, ◌/◌, ◌<◌, List, [], ◌∷◌, All, length, map, slice_index_or, ◌==◌, if◌then◌else◌}
use Rattle.std.specs.List.{range_with_len}
use Rattle.mp_wave.specs.Waveform.{Waveform, last_time}
use Rattle.mp_wave.specs.ToggleWaves.{AreTimes, toggled_at}
use Rattle.mp_kernel.specs.declared.events.late_toggles.LateToggle.{LateToggle}
use Rattle.mp_kernel.specs.events.Toggling.{wave_at}

-- the wave with toggles at these times too
abbrev pub toggled_by : Waveform → List ℕ → Waveform
toggled_by wave [] = wave
toggled_by wave (time ∷ times) = toggled_by (toggled_at wave time) times

-- the times of a wire's toggles among others
abbrev pub late_times : ℕ → List LateToggle → List ℕ
late_times w [] = []
late_times w (toggle ∷ late) = if toggle.wire == w then toggle.time ∷ late_times w late else late_times w late

-- the wave of a wire with its toggles among others
abbrev pub whole_wave : List Waveform → List LateToggle → ℕ → Waveform
whole_wave waves late w = toggled_by (wave_at waves w) (late_times w late)

-- the waves with those in the lists of their wires' shares
abbrev pub waves_by : List (List LateToggle) → List Waveform → List Waveform
waves_by late waves = map (λ w. whole_wave waves (slice_index_or late (w / 16384) []) w) (range_with_len 0 (length waves))

-- toggles of wires of one share, which have waves; each wire's are later than its wave, by rising time
pub record AreLate (waves : List Waveform) (share : ℕ) (late : List LateToggle) : Type 0 where
  pub shared : All (λ (toggle : LateToggle). toggle.wire / 16384 ≡ share) late
  pub waved : All (λ (toggle : LateToggle). toggle.wire < length waves) late
  pub rise : (w : ℕ) → AreTimes (last_time 0 (wave_at waves w).changes) (late_times w late)

-- such toggles in the list of each share
abbrev pub AreAllLate : List Waveform → List (List LateToggle) → Type 0
AreAllLate waves late = (share : ℕ) → AreLate waves share (slice_index_or late share [])

-- a toggle of a wire that has a wave, later than it with those that wait
pub record CanWait (waves : List Waveform) (late : List LateToggle) (toggle : LateToggle) : Type 0 where
  pub before : AreLate waves (toggle.wire / 16384) late
  pub waved : toggle.wire < length waves
  pub over : last_time 0 (whole_wave waves late toggle.wire).changes < toggle.time
