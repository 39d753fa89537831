-- A wave that grows at its end.
use Rattle.std.specs.Prelude.{ℕ, ◌<◌}
use Rattle.mp_wave.specs.Waveform.{Waveform, IsWaveform, last_time}

-- a wave, and the first time at which its level may still change
pub record Building : Type 0 where
  pub wave : Waveform
  pub next : ℕ

-- the wave is in form, and its changes come before the next time
pub record IsBuilding (building : Building) : Type 0 where
  pub form : IsWaveform building.wave
  pub over : last_time 0 building.wave.changes < building.next
