-- Where the columns and the times of an SVG stand.
use Rattle.std.specs.Prelude.{ℕ, ◌+◌, ◌*◌, length, max}
use Rattle.mp_picture.specs.Columns.{count}
use Rattle.mp_picture.specs.Rows.{last_tick, tick, tick_step}
use Rattle.mp_picture.specs.declared.svg.frame.Frame.{Frame}
use Rattle.mp_picture.specs.declared.svg.lane.Lane.{Lane}

-- a row by number
abbrev pub lane : Frame → ℕ → Lane
lane frame row = record { left = frame.left; row = row; units = frame.columns.units; numerals = frame.numerals }

-- where a column begins
abbrev pub column_x : Frame → ℕ → ℕ
column_x frame j = frame.left + 8 * j

-- at how many columns a time stands: at each tenth, or at each twentieth where two would touch
abbrev pub tick_count : Frame → ℕ
tick_count frame = last_tick frame.columns + 1

-- where the last time ends, each digit as wide as a column
abbrev pub last_end : Frame → ℕ
last_end frame = column_x frame (tick_step frame.columns * last_tick frame.columns) + 8 * length (tick frame.columns (last_tick frame.columns))

-- where the columns end, or the last time where that is further
abbrev pub end : Frame → ℕ
end frame = max (column_x frame (count frame.columns)) (last_end frame)
