-- The waves of a run.
use Rattle.std.specs.Prelude.{Option, Some, None, option_map, ◌==◌, if◌then◌else◌}
use Rattle.mp_wave.specs.Waveform.{Waveform}
use Rattle.mp_wave.specs.Building.{Building}
use Rattle.mp_records.specs.declared.wire_record.WireRecord.{WireRecord}

-- a wave, where a wire stands in its slot
abbrev pub wave_in : Option WireRecord → Option Waveform → Option Waveform
wave_in None wave = None
wave_in (Some r) wave = wave

abbrev pub wave_built : Building → Waveform
wave_built building = building.wave

-- of a wave by toggles and one that was built, the first for a wire of width 1
abbrev pub wave_for : Option WireRecord → Option Waveform → Option Building → Option Waveform
wave_for None toggles built = None
wave_for (Some r) toggles built = if r.width == 1 then toggles else option_map wave_built built
