-- The waves that wires begin with.
use Rattle.std.specs.Prelude.{[], Option, ◌==◌, if◌then◌else◌}
use Rattle.mp_wave.specs.Waveform.{Waveform}
use Rattle.mp_wave.specs.Building.{Building}
use Rattle.mp_wave.specs.ToggleWaves.{toggle_wave}
use Rattle.mp_records.specs.declared.wire_record.WireRecord.{WireRecord}
use Rattle.mp_model.specs.Levels.{initial_of}

-- the wave of one bit of what stands in a wire's slot, before anything changes
abbrev pub first_wave : Option WireRecord → Waveform
first_wave slot = toggle_wave (if initial_of slot == 1 then 1 else 0) []

-- the wave of any width, before anything changes
abbrev pub first_building : Option WireRecord → Building
first_building slot = record { wave = record { initial = initial_of slot; changes = [] }; next = 1 }
