-- What a wire does in each column.
use Rattle.std.specs.Prelude.{ℕ, ◌+◌, ◌-◌, ◌==◌, List, map, max, if◌then◌else◌}
use Rattle.std.specs.List.{count_by, range_with_len}
use Rattle.mp_modules.specs.Histories.{has_event}
use Rattle.mp_picture.specs.declared.cell.ColumnCell.{ColumnCell}
use Rattle.mp_picture.specs.declared.cell.ColumnEvents.{ColumnEvents}
use Rattle.mp_picture.specs.declared.cell.ColumnEvents.TheVariants.{None, One, More}
use Rattle.mp_picture.specs.declared.columns.Columns.{Columns}
use Rattle.mp_picture.specs.Columns.{begin, end, numbers}

-- how many events a level has from one time on to before another
abbrev pub event_count : (ℕ → ℕ) → ℕ → ℕ → ℕ
event_count level lo hi = count_by (has_event level) (range_with_len lo (hi - lo))

-- none, one or more
abbrev pub events_of : ℕ → ColumnEvents
events_of count = if count == 0 then None else if count == 1 then One else More

-- a column from one time on to before another, in a picture that begins at a first unit, at which no event counts
abbrev pub cell : (ℕ → ℕ) → ℕ → ℕ → ℕ → ColumnCell
cell level first lo hi = record { events = events_of (event_count level (max lo (first + 1)) hi); level = level (hi - 1) }

-- the cell of a level in a column
abbrev pub cell_at : (ℕ → ℕ) → Columns → ℕ → ColumnCell
cell_at level c j = cell level c.from (begin c j) (end c j)

-- the cells of a level by column
unfoldable pub cells : (ℕ → ℕ) → Columns → List ColumnCell
cells level c = map (cell_at level c) (numbers c)
