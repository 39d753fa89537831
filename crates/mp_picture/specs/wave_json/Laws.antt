-- What the wave of a wire says to a reader, as WaveDrom is.
use Rattle.std.specs.Prelude.{◌≡◌, ◌≢◌, ◌%◌, ◌*◌, ◌+◌, ◌-◌, ℕ, List, [], ◌∷◌, length, map, ◌==◌, if◌then◌else◌}
use Rattle.std.specs.List.{filter, range_with_len}
use Rattle.std.specs.Str.{byte}
use Rattle.mp_picture.specs.declared.cell.ColumnCell.{ColumnCell}
use Rattle.mp_picture.specs.declared.columns.Columns.{Columns}
use Rattle.mp_picture.specs.Cells.{cells}
use Rattle.mp_picture.specs.Columns.{begin, count, end, numbers}
use Rattle.mp_picture.specs.wave_json.WaveJson.{tick}
use Rattle.mp_picture.specs.wave_json.Waves.{bit_at, has_value, wave}
use Rattle.mp_picture.specs.svg.Columns.{cell_at}

-- a wave has as many characters as there are columns
abbrev pub HasCharacters : Type 0
HasCharacters = (width : ℕ) (f : ℕ → ℕ) (c : Columns) → length (wave width (cells f c)) ≡ count c

-- what each column shows: its character, or behind some column the same as that, where it is a `.`
abbrev pub shown_behind : ℕ → List ℕ → List ℕ
shown_behind before [] = []
shown_behind before (c ∷ cs) = let shown = if c == byte "." then before else c in shown ∷ shown_behind shown cs

-- the wave of a wire of width 1 shows the symbol of each column, whatever is before it
abbrev pub ShowsBits : Type 0
ShowsBits = (before : ℕ) (drawn : List ColumnCell) → shown_behind before (wave 1 drawn) ≡ map (bit_at drawn) (range_with_len 0 (length drawn))

-- what each column of a wider wire shows: the next value where it is a `=`, and else that of the column before
abbrev pub values_behind : ℕ → List ℕ → List ℕ → List ℕ
values_behind before values [] = []
values_behind before [] (c ∷ cs) = before ∷ values_behind before [] cs
values_behind before (value ∷ values) (c ∷ cs) =
    if c == byte "=" then value ∷ values_behind value values cs else before ∷ values_behind before (value ∷ values) cs

abbrev pub level_in : List ColumnCell → ℕ → ℕ
level_in drawn j = (cell_at drawn j).level

-- the levels that are given as values
abbrev pub given_levels : List ColumnCell → List ℕ
given_levels drawn = map (level_in drawn) (filter (has_value drawn) (range_with_len 0 (length drawn)))

-- the wave of a wider wire, with its values, shows the level at the end of each column
abbrev pub ShowsWords : Type 0
ShowsWords = (before width : ℕ) (f : ℕ → ℕ) (c : Columns) → width ≢ 1
    → values_behind before (given_levels (cells f c)) (wave width (cells f c)) ≡ map (λ j. f (end c j - 1)) (numbers c)

-- the numbers above columns are those of their first units, in units of a column, where the range begins at a multiple of that
abbrev pub TicksAreTimes : Type 0
TicksAreTimes = (c : Columns) (j : ℕ) → c.from % c.units ≡ 0 → c.units * (tick c + j) ≡ begin c j
