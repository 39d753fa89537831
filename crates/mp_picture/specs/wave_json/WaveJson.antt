-- The waves of a picture as WaveJSON, which WaveDrom draws.
use Rattle.std.specs.Prelude.{ℕ, ◌/◌, Bool, true, false, List, [], ◌∷◌, ◌++◌, drop, codes, Option, Some, None, if◌then◌else◌}
use Rattle.std.specs.List.{flat_map}
use Rattle.std.specs.Fmt.{decimal}
use Rattle.mp_records.specs.declared.ids.WireId.{WireId}
use Rattle.mp_records.specs.declared.wire_record.WireRecord.{WireRecord}
use Rattle.mp_netlist.specs.Circuit.{Circuit, wire_at}
use Rattle.mp_model.specs.Waves.{level}
use Rattle.mp_picture.specs.declared.cell.ColumnCell.{ColumnCell}
use Rattle.mp_picture.specs.declared.columns.Columns.{Columns}
use Rattle.mp_picture.specs.declared.numerals.Numerals.{Numerals}
use Rattle.mp_picture.specs.Cells.{cells}
use Rattle.mp_picture.specs.wave_json.Signals.{signal}

-- ---- signals with commas between them

abbrev pub has_some : List ℕ → Bool
has_some [] = false
has_some (byte ∷ bytes) = true

-- items with a comma before each, but for the first
abbrev pub without_first : List ℕ → List ℕ
without_first items = drop 1 items

abbrev pub item_at : Bool → List ℕ → List ℕ
item_at is_first item = if is_first then without_first item else item

-- a signal on a line of its own, behind a comma
abbrev pub signal_line : Numerals → WireRecord → List ColumnCell → List ℕ
signal_line numerals wire drawn = codes ",\n" ++ signal numerals wire drawn

-- that of what stands in a wire's slot
abbrev pub slot_item : Circuit → Columns → Numerals → ℕ → Option WireRecord → List ℕ
slot_item n columns numerals w None = []
slot_item n columns numerals w (Some r) = signal_line numerals r (cells (level n w) columns)

abbrev pub signal_item : Circuit → Columns → Numerals → WireId → List ℕ
signal_item n columns numerals wire = slot_item n columns numerals wire.0 (wire_at n wire.0)

-- ---- the whole

-- the number above the first column: that of its first unit, in units of a column; the columns behind it have the next ones
abbrev pub tick : Columns → ℕ
tick c = c.from / c.units

abbrev pub ending : Columns → List ℕ
ending c = codes "\n],\n\"head\": {\"text\": \"time in units of " ++ (decimal c.units ++ (codes "\", \"tick\": " ++ (decimal (tick c) ++ codes "}}\n")))

-- a signal for each wire, and the times above them
unfoldable pub wave_json : Circuit → Columns → Numerals → List WireId → List ℕ
wave_json n columns numerals wires = codes "{\"signal\": [" ++ (without_first (flat_map (signal_item n columns numerals) wires) ++ ending columns)
