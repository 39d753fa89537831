-- Waves that are known up to a time, and go on with others.
use Rattle.std.specs.Prelude.{◌≡◌, ℕ, ◌-◌, ◌<◌, ◌≤◌, nat_lt, Option, IsSome, if◌then◌else◌}
use Rattle.mp_wave.specs.Waveform.{Waveform, IsWaveform, level_of}
use Rattle.mp_wave.specs.Building.{Building, IsBuilding}
use Rattle.mp_netlist.specs.Circuit.{Circuit}
use Rattle.mp_model.specs.Waves.{level}
use Rattle.mp_partition.specs.runs.Outcomes.{Outcome}
use Rattle.mp_active.specs.compare.Comparing.{wave_or_none, old_wave}

-- one level before a time, and another from then on
abbrev pub switched : ℕ → (ℕ → ℕ) → (ℕ → ℕ) → ℕ → ℕ
switched time one other t = if nat_lt t time then one t else other t

-- a wave has a level up to an end, and the last is held from there on
pub record IsWaveUpTo (level : ℕ → ℕ) (end : ℕ) (wave : Waveform) : Type 0 where
  pub levels : (t : ℕ) → t < end → level_of wave t ≡ level t
  pub held : (t : ℕ) → end ≤ t → level_of wave t ≡ level (end - 1)
  pub form : IsWaveform wave

-- so has a wave that is built, and levels from the end on can still be given
pub record IsUpTo (level : ℕ → ℕ) (end : ℕ) (built : Building) : Type 0 where
  pub levels : (t : ℕ) → t < end → level_of built.wave t ≡ level t
  pub held : (t : ℕ) → end ≤ t → level_of built.wave t ≡ level (end - 1)
  pub next : built.next ≤ end
  pub form : IsBuilding built

-- a wire has the levels of a wave before a time, and from then on those of a run
pub record IsSplicedAt (n : Circuit) (run : Outcome) (w from : ℕ) (wave : Option Waveform) : Type 0 where
  pub some : IsSome wave
  pub levels : (u : ℕ) → u < n.horizon → switched from (level_of (wave_or_none wave)) (level_of (old_wave run w)) u ≡ level n w u
