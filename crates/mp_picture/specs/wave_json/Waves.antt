-- The wave of a wire in WaveJSON: a character for each column, and `.` where a column goes on as the one before.
use Rattle.std.specs.Prelude.{ℕ, ◌-◌, ◌==◌, nat_lt, ◌&&◌, ◌||◌, not, Bool, List, [], ◌∷◌, length, if◌then◌else◌}
use Rattle.std.specs.List.{flat_map, range_with_len}
use Rattle.std.specs.Str.{byte}
use Rattle.mp_picture.specs.declared.cell.ColumnCell.{ColumnCell}
use Rattle.mp_picture.specs.declared.cell.ColumnEvents.{ColumnEvents}
use Rattle.mp_picture.specs.declared.cell.ColumnEvents.TheVariants.{None, One, More}
use Rattle.mp_picture.specs.Rows.{is_still}
use Rattle.mp_picture.specs.svg.Columns.{cell_at}

-- ---- a wire of width 1

abbrev pub bit_digit : ℕ → ℕ
bit_digit level = if level == 0 then byte "0" else byte "1"

-- the level at the end of a column, or `x` where the wire has several events in it
abbrev pub bit_symbol : ColumnEvents → ℕ → ℕ
bit_symbol None level = bit_digit level
bit_symbol One level = bit_digit level
bit_symbol More level = byte "x"

abbrev pub bit_at : List ColumnCell → ℕ → ℕ
bit_at cells j = bit_symbol (cell_at cells j).events (cell_at cells j).level

-- a `.` where the column before has the same
abbrev pub bit_character : List ColumnCell → ℕ → ℕ
bit_character cells j = if nat_lt 0 j && bit_at cells (j - 1) == bit_at cells j then byte "." else bit_at cells j

-- ---- a wider wire

-- a value begins in the first column, and in each with an event
abbrev pub has_value : List ColumnCell → ℕ → Bool
has_value cells j = j == 0 || not (is_still (cell_at cells j))

abbrev pub word_character : List ColumnCell → ℕ → ℕ
word_character cells j = if has_value cells j then byte "=" else byte "."

-- ---- a wire

abbrev pub character : ℕ → List ColumnCell → ℕ → ℕ
character width cells j = if width == 1 then bit_character cells j else word_character cells j

abbrev pub wave : ℕ → List ColumnCell → List ℕ
wave width cells = flat_map (λ j. character width cells j ∷ []) (range_with_len 0 (length cells))
