-- Wires of width 1 toggle, each at most once in a unit.
use Rattle.std.specs.Prelude.{◌≡◌, ℕ, ◌<◌, ◌≤◌, List, [], All, length, slice_index_or, ◌==◌, if◌then◌else◌}
use Rattle.std.specs.List.{flat_map}
use Rattle.mp_wave.specs.Waveform.{Waveform, last_time}
use Rattle.mp_kernel.specs.declared.events.fanout_entry.FanoutEntry.{FanoutEntry}
use Rattle.mp_wave.specs.ToggleWaves.{toggled_at}
use Rattle.mp_kernel.specs.events.Adding.{listed}

abbrev pub row_at : List (List FanoutEntry) → ℕ → List FanoutEntry
row_at rows w = slice_index_or rows w []

abbrev pub wave_at : List Waveform → ℕ → Waveform
wave_at waves w = slice_index_or waves w (record { initial = 0; changes = [] })

-- the inputs that read these wires, one wire after the other
abbrev pub entries_from : List (List FanoutEntry) → List ℕ → List FanoutEntry
entries_from rows wires = flat_map (row_at rows) wires

-- each of these wires is there once, and toggled only earlier
pub record CanToggle (waves : List Waveform) (wires : List ℕ) (time : ℕ) : Type 0 where
  pub once : (w : ℕ) → listed w wires ≤ 1
  pub over : All (λ w. last_time 0 (wave_at waves w).changes < time) wires

-- these wires toggle at a time, and the others don't
pub record AreToggled (waves new : List Waveform) (wires : List ℕ) (time : ℕ) : Type 0 where
  pub placed : length new ≡ length waves
  pub each : (w : ℕ) → wave_at new w ≡ (if listed w wires == 0 then wave_at waves w else toggled_at (wave_at waves w) time)
