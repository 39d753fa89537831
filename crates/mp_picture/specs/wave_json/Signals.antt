-- A wire as a signal of WaveJSON.
use Rattle.std.specs.Prelude.{ℕ, ◌==◌, List, [], ◌∷◌, ◌++◌, length, codes, if◌then◌else◌}
use Rattle.std.specs.List.{flat_map, range_with_len}
use Rattle.mp_records.specs.declared.wire_record.WireRecord.{WireRecord}
use Rattle.mp_picture.specs.declared.cell.ColumnCell.{ColumnCell}
use Rattle.mp_picture.specs.declared.numerals.Numerals.{Numerals}
use Rattle.mp_picture.specs.Levels.{level_text}
use Rattle.mp_picture.specs.svg.Columns.{cell_at}
use Rattle.mp_picture.specs.wave_json.Waves.{has_value, wave}

abbrev pub quoted : List ℕ → List ℕ
quoted text = 34 ∷ (text ++ (34 ∷ []))

-- a value that begins in a column is the level at the column's end, behind the others by a comma
abbrev pub value_item : Numerals → List ColumnCell → ℕ → List ℕ
value_item numerals cells j =
    if has_value cells j then (if j == 0 then [] else codes ", ") ++ quoted (level_text numerals (cell_at cells j).level) else []

abbrev pub values : Numerals → List ColumnCell → List ℕ
values numerals cells = flat_map (value_item numerals cells) (range_with_len 0 (length cells))

-- those of a wider wire
abbrev pub values_member : ℕ → Numerals → List ColumnCell → List ℕ
values_member width numerals cells = if width == 1 then [] else codes ", \"data\": [" ++ (values numerals cells ++ codes "]")

-- its name, its wave and its values
abbrev pub signal : Numerals → WireRecord → List ColumnCell → List ℕ
signal numerals wire cells =
    codes "{\"name\": \"" ++ (wire.name ++ (codes "\", \"wave\": \"" ++ (wave wire.width cells
    ++ (codes "\"" ++ (values_member wire.width numerals cells ++ codes "}")))))
