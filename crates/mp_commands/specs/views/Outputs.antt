-- The lines of waves.
use Rattle.std.specs.Prelude.{ℕ, List, [], ◌++◌, length, Option, Some, None, zero, suc}
use Rattle.mp_wave.specs.Waveform.{Waveform}
use Rattle.mp_records.specs.declared.wire_record.WireRecord.{WireRecord}
use Rattle.mp_netlist.specs.Circuit.{Circuit, wire_at}
use Rattle.mp_model.specs.Waves.{wave}
use Rattle.mp_text.specs.lexing.WaveLines.{wave_line}

-- the line of what stands in a wire's slot, and none where nothing does
abbrev pub slot_line : Option WireRecord → Waveform → List ℕ
slot_line None wave = []
slot_line (Some wire) wave = wave_line wire.name wave.initial wave.changes

-- the lines of the wires with a number below
unfoldable pub lines_below : Circuit → ℕ → List ℕ
lines_below n zero = []
lines_below n (suc w) = lines_below n w ++ slot_line (wire_at n w) (wave n w)

-- the lines of all wires that stand, by number
abbrev pub waves_text : Circuit → List ℕ
waves_text n = lines_below n (length n.wires)
