-- What the row of a wire in an SVG tells of its cells.
use Rattle.std.specs.Prelude.{◌≡◌, ℕ, ◌<◌, ◌^◌, Bool, List, ◌++◌, map}
use Rattle.mp_picture.specs.declared.cell.ColumnCell.{ColumnCell}
use Rattle.mp_picture.specs.declared.columns.Columns.{Columns}
use Rattle.mp_picture.specs.Cells.{cells}
use Rattle.mp_picture.specs.Rows.{is_still}
use Rattle.mp_picture.specs.declared.svg.lane.Lane.{Lane}
use Rattle.mp_picture.specs.declared.svg.svg_drawing.SvgDrawing.TheVariants.{Bits, Values, Words}
use Rattle.mp_picture.specs.svg.Columns.{cell_at, drawn}
use Rattle.mp_picture.specs.svg.WireGroups.{start}

-- levels below a number over a range of units
abbrev pub AreBelow : ℕ → Columns → (ℕ → ℕ) → Type 0
AreBelow most c f = (t : ℕ) → t < c.to → f t < most

-- the commands of the path of a wire of width 1
abbrev pub bit_commands : Lane → List ColumnCell → List ℕ
bit_commands lane cells = start lane (cell_at cells 0) ++ drawn lane cells Bits

-- the path of a wire of width 1 tells its cells
abbrev pub BitRowTells : Type 0
BitRowTells = (lane : Lane) (c : Columns) (f g : ℕ → ℕ) → lane.row < 2 ^ 32 → AreBelow 2 c f → AreBelow 2 c g
    → bit_commands lane (cells f c) ≡ bit_commands lane (cells g c) → cells f c ≡ cells g c

-- what is shown of a cell of a wider wire: whether it has an event, and its level
abbrev pub shown : ColumnCell → Bool × ℕ
shown cell = (is_still cell, cell.level)

-- the path and the values of a wider wire tell what is shown of its cells
abbrev pub WordRowTells : Type 0
WordRowTells = (lane : Lane) (c : Columns) (f g : ℕ → ℕ) → lane.row < 2 ^ 32 → AreBelow (2 ^ 64) c f → AreBelow (2 ^ 64) c g
    → drawn lane (cells f c) Words ≡ drawn lane (cells g c) Words → drawn lane (cells f c) Values ≡ drawn lane (cells g c) Values
    → map shown (cells f c) ≡ map shown (cells g c)
