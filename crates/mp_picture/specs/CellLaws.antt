-- What cells say of a level over time.
use Rattle.std.specs.Prelude.{◌≡◌, ◌≢◌, ℕ, ◌+◌, ◌-◌, ◌<◌, ◌≤◌, ◌↔◌, max, slice_index_or}
use Rattle.mp_picture.specs.declared.cell.ColumnCell.{ColumnCell}
use Rattle.mp_picture.specs.declared.cell.ColumnEvents.TheVariants.{None, One}
use Rattle.mp_picture.specs.declared.columns.Columns.{Columns}
use Rattle.mp_picture.specs.Columns.{count, end}
use Rattle.mp_picture.specs.Cells.{cell, cells}

-- where a cell has no event, the level is the cell's in each unit of its column
abbrev pub StaysWithout : Type 0
StaysWithout = (f : ℕ → ℕ) (first lo hi t : ℕ) → first ≤ lo → lo ≤ t → t < hi → (cell f first lo hi).events ≡ None → f t ≡ (cell f first lo hi).level

-- the first unit of a column at which an event counts
abbrev pub opens : ℕ → ℕ → ℕ
opens first lo = max lo (first + 1)

-- a level is one up to a time, from one unit before a column on, and another from that time on
pub record IsOnlyChange (f : ℕ → ℕ) (lo hi old new time : ℕ) : Type 0 where
  pub from : lo ≤ time
  pub within : time < hi
  pub before : (t : ℕ) → lo ≤ t + 1 → t < time → f t ≡ old
  pub since : (t : ℕ) → time ≤ t → t < hi → f t ≡ new
  pub differ : old ≢ new

-- where a cell has one event, there is one time in its column up to which the level is that before it, and from which it is the cell's
abbrev pub ChangesAtOne : Type 0
ChangesAtOne = (f : ℕ → ℕ) (first lo hi : ℕ) → first ≤ lo → lo < hi → (cell f first lo hi).events ≡ One
    → (time : ℕ) × IsOnlyChange f (opens first lo) hi (f (opens first lo - 1)) (cell f first lo hi).level time

-- a cell has an event exactly where the level differs from that a unit before in one of its column's units, the picture's first left out
abbrev pub TellsEvents : Type 0
TellsEvents = (f : ℕ → ℕ) (first lo hi : ℕ) → first ≤ lo → lo < hi
    → ((cell f first lo hi).events ≢ None) ↔ ((t : ℕ) × (opens first lo ≤ t) × (t < hi) × (f (t - 1) ≢ f t))

-- the cells of a level tell it at the end of each column
abbrev pub TellsLevels : Type 0
TellsLevels = (f : ℕ → ℕ) (c : Columns) (j : ℕ) (d : ColumnCell) → j < count c → (slice_index_or (cells f c) j d).level ≡ f (end c j - 1)
