-- The columns of a range that is asked for.
use Rattle.std.specs.Prelude.{ℕ, ◌+◌, ◌-◌, ◌%◌, min, max}
use Rattle.std.proofs.Math.Nat.{lt_of_le_of_lt, lt_of_lt_of_le, le-max_left, le-max_right, sub-le}
use Rattle.std.proofs.Math.Numerals.{lt-add-one}
use Rattle.mp_picture.specs.declared.columns.Columns.{Columns}
use Rattle.mp_picture.specs.RoundNumbers.{rounded_down, units_of}

-- the units before a time, from one on or from the multiple of so many before it on, in columns of as many
abbrev pub columns_of : ℕ → ℕ → ℕ → Columns
columns_of from to units = record {
  from = rounded_down (max 1 units) from;
  to = max to (from + 1);
  units = max 1 units;
  some = lt_of_le_of_lt (sub-le from (from % max 1 units)) (lt_of_lt_of_le (lt-add-one from) (le-max_right to (from + 1)));
  wide = le-max_left 1 units;
}

-- the units from one on to before another, one at least, in at most so many columns of a round number of units, which begin at its multiples
abbrev pub columns_between : ℕ → ℕ → ℕ → Columns
columns_between from to most = columns_of from to (units_of from (max to (from + 1)) most)

-- a range below a horizon, where a time at or above it is read as its last unit, or as the horizon itself where it ends the range
abbrev pub columns_in : ℕ → ℕ → ℕ → ℕ → Columns
columns_in horizon from to most = columns_between (min from (horizon - 1)) (min to horizon) most
