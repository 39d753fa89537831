-- What the paths of an SVG tell of the cells that they are drawn of.
use Rattle.std.specs.Prelude.{◌≡◌, ◌≢◌, ℕ, ◌<◌, ◌^◌, ◌==◌, Bool}
use Rattle.mp_picture.specs.declared.cell.ColumnEvents.{ColumnEvents}
use Rattle.mp_picture.specs.declared.cell.ColumnEvents.TheVariants.{None}
use Rattle.mp_picture.specs.declared.svg.lane.Lane.{Lane}
use Rattle.mp_picture.specs.svg.Columns.{bit_path, word_path}

-- two cells of a wire of width 1 with the same path have the same events, and with one or more the same level: 0 or not
abbrev pub BitsTell : Type 0
BitsTell = (lane : Lane) (j : ℕ) (first second : ColumnEvents) (one other : ℕ) → lane.row < 2 ^ 32 → bit_path lane j first one ≡ bit_path lane j second other
    → (first ≡ second) × (first ≢ None → (one == 0) ≡ (other == 0))

-- two cells of a wider wire with the same path are both quiet or both not, whatever the next ones are
abbrev pub WordsTell : Type 0
WordsTell = (lane : Lane) (j : ℕ) (first second next other : Bool) → lane.row < 2 ^ 32 → word_path lane j first next ≡ word_path lane j second other → first ≡ second
