-- The rows of a picture as text.
use Rattle.std.specs.Prelude.{ℕ, ◌-◌, ◌*◌, ◌/◌, ◌==◌, nat_le, nat_lt, ◌&&◌, Bool, true, false, List, [], ◌∷◌, ◌++◌, length, drop, if◌then◌else◌}
use Rattle.std.specs.List.{flat_map, prefix_len, repeat, range_with_len}
use Rattle.std.specs.Fmt.{decimal}
use Rattle.mp_records.specs.declared.wire_record.WireRecord.{WireRecord}
use Rattle.mp_picture.specs.declared.cell.ColumnCell.{ColumnCell}
use Rattle.mp_picture.specs.declared.cell.ColumnEvents.{ColumnEvents}
use Rattle.mp_picture.specs.declared.cell.ColumnEvents.TheVariants.{None, One, More}
use Rattle.mp_picture.specs.declared.columns.Columns.{Columns}
use Rattle.mp_picture.specs.declared.layout.DiagramLayout.{DiagramLayout}
use Rattle.mp_picture.specs.declared.mark.Charset.{Charset}
use Rattle.mp_picture.specs.declared.mark.Mark.TheVariants.{Flat, Cross}
use Rattle.mp_picture.specs.declared.numerals.Numerals.{Numerals}
use Rattle.mp_picture.specs.Columns.{count, begin}
use Rattle.mp_picture.specs.Levels.{level_text}
use Rattle.mp_picture.specs.Marks.{bit_mark, mark_text}

-- a text, filled with blanks to a width
abbrev pub padded : ℕ → List ℕ → List ℕ
padded width text = text ++ repeat (width - length text) (32 ∷ [])

-- ---- times

-- of the times at each tenth column the last but one has ten digits, and would touch the last
abbrev pub touches : Columns → Bool
touches c = nat_lt 0 ((count c - 1) / 10) && nat_le 1000000000 (begin c (10 * ((count c - 1) / 10 - 1)))

-- a time stands at each tenth column, or at each twentieth where two would touch
abbrev pub tick_step : Columns → ℕ
tick_step c = if touches c then 20 else 10

-- the number of the last one
abbrev pub last_tick : Columns → ℕ
last_tick c = (count c - 1) / tick_step c

-- the time at which such a column begins
abbrev pub tick : Columns → ℕ → List ℕ
tick c i = decimal (begin c (tick_step c * i))

-- blanks in place of a name, and the times, each filled up to the next but the last
abbrev pub ruler : DiagramLayout → List ℕ
ruler layout =
    let c = layout.columns in
    repeat layout.margin (32 ∷ []) ++ (flat_map (λ i. padded (tick_step c) (tick c i)) (range_with_len 0 (last_tick c)) ++ (tick c (last_tick c) ++ (10 ∷ [])))

-- ---- wires of width 1

abbrev pub narrow_text : Charset → ℕ → List ColumnCell → List ℕ
narrow_text charset units cells = flat_map (λ cell. mark_text charset (bit_mark units cell)) cells

-- ---- wider wires

abbrev pub has_none : ColumnEvents → Bool
has_none None = true
has_none One = false
has_none More = false

-- a cell without an event
abbrev pub is_still : ColumnCell → Bool
is_still cell = has_none cell.events

-- the text of a level, where there are so many columns for it
abbrev pub fitting : Numerals → ℕ → ℕ → List ℕ
fitting numerals level room = if nat_le (length (level_text numerals level)) room then level_text numerals level else []

-- a character of a level's text, or that of a flat column
abbrev pub character_or_flat : Charset → List ℕ → List ℕ
character_or_flat charset [] = mark_text charset Flat
character_or_flat charset (character ∷ text) = character ∷ []

-- a column each, where a level's text may still stand: a cross with an event, behind which stands the level in the columns without one, where it fits
abbrev pub wide_from : DiagramLayout → List ℕ → List ColumnCell → List ℕ
wide_from layout text [] = []
wide_from layout text (cell ∷ cells) =
    if is_still cell then character_or_flat layout.charset text ++ wide_from layout (drop 1 text) cells
    else mark_text layout.charset Cross ++ wide_from layout (fitting layout.numerals cell.level (prefix_len is_still cells)) cells

-- the level of the first column stands from there on, where it fits
abbrev pub wide_text : DiagramLayout → List ColumnCell → List ℕ
wide_text layout [] = []
wide_text layout (cell ∷ cells) = wide_from layout (fitting layout.numerals cell.level (prefix_len is_still (cell ∷ cells))) (cell ∷ cells)

-- so many columns without an event
abbrev pub run_text : DiagramLayout → ℕ → ℕ → List ℕ
run_text layout level room =
    let text = fitting layout.numerals level room in
    text ++ repeat (room - length text) (mark_text layout.charset Flat)

-- ---- a wire

abbrev pub row_text : DiagramLayout → ℕ → List ColumnCell → List ℕ
row_text layout width cells = if width == 1 then narrow_text layout.charset layout.columns.units cells else wide_text layout cells

-- its name, filled to the width of the names, a character a column and a line feed
abbrev pub wire_row : DiagramLayout → WireRecord → List ColumnCell → List ℕ
wire_row layout wire cells = padded layout.margin wire.name ++ (row_text layout wire.width cells ++ (10 ∷ []))
