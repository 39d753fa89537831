-- What the delay of an input does to the wave of its wire.
use Rattle.std.specs.Prelude.{◌≡◌, ℕ, ◌-◌, ◌<◌}
use Rattle.mp_wave.specs.Waveform.{Waveform, IsWaveform, level_of}
use Rattle.mp_records.specs.declared.ports.Input.{Input}
use Rattle.mp_netlist.specs.Circuit.{Circuit, IsCircuit}
use Rattle.mp_model.specs.Levels.{input_by}
use Rattle.mp_model.specs.Waves.{level, wave}
use Rattle.mp_model.specs.response.Pieces.{later_by}

-- a wave that comes later by a delay has the level of so much before, and until the delay is over the level of time 0
abbrev pub ComesLater : Type 0
ComesLater = (delay t : ℕ) (wave : Waveform) → IsWaveform wave → level_of (later_by delay wave) t ≡ level_of wave (t - delay)

-- at each time below the horizon the level at an input is that of its wire's wave, later by the input's delay
abbrev pub ReadsLaterWave : Type 0
ReadsLaterWave = (n : Circuit) → IsCircuit n → (i : Input) (t : ℕ) → t < n.horizon →
    level_of (later_by i.delay (wave n i.wire.0)) t ≡ input_by n (level n) i t
