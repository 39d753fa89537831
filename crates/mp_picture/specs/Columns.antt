-- A range of units that is cut into columns.
use Rattle.std.specs.Prelude.{ℕ, ◌+◌, ◌-◌, ◌*◌, ◌/◌, List, min, max}
use Rattle.std.specs.List.{range_with_len}
use Rattle.std.specs.Int.{div_ceil}
use Rattle.mp_picture.specs.declared.columns.Columns.{Columns}

-- the first unit of a range below a horizon
abbrev pub range_from : ℕ → ℕ → ℕ
range_from horizon from = min from (horizon - 1)

-- the end of a range, which has one unit at least
abbrev pub range_to : ℕ → ℕ → ℕ → ℕ
range_to horizon from to = max (min to horizon) (range_from horizon from + 1)

-- how many columns it takes
abbrev pub count : Columns → ℕ
count c = div_ceil (c.to - c.from) c.units

-- the first unit of a column
abbrev pub begin : Columns → ℕ → ℕ
begin c j = c.from + c.units * j

-- the end of a column
abbrev pub end : Columns → ℕ → ℕ
end c j = min c.to (begin c (j + 1))

-- the columns by number
abbrev pub numbers : Columns → List ℕ
numbers c = range_with_len 0 (count c)

-- the column that a time of the range lies in
abbrev pub column_of : Columns → ℕ → ℕ
column_of c t = (t - c.from) / c.units
