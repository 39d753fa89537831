-- The row of a wire in an SVG.
use Rattle.std.specs.Prelude.{ℕ, ◌-◌, ◌==◌, List, [], ◌∷◌, ◌++◌, codes, if◌then◌else◌}
use Rattle.std.specs.Fmt.{decimal}
use Rattle.mp_records.specs.declared.wire_record.WireRecord.{WireRecord}
use Rattle.mp_picture.specs.declared.cell.ColumnCell.{ColumnCell}
use Rattle.mp_picture.specs.declared.cell.ColumnEvents.{ColumnEvents}
use Rattle.mp_picture.specs.declared.cell.ColumnEvents.TheVariants.{None, One, More}
use Rattle.mp_picture.specs.declared.svg.lane.Lane.{Lane}
use Rattle.mp_picture.specs.declared.svg.svg_drawing.SvgDrawing.TheVariants.{Bands, Bits, Values, Words}
use Rattle.mp_picture.specs.svg.Lanes.{x_of, top, bottom, base, y_of}
use Rattle.mp_picture.specs.svg.Elements.{attribute, number, title, text_from}
use Rattle.mp_picture.specs.svg.Columns.{move_to, cell_at, drawn}

-- the level before the first column: that of its cell, or the other one where it has one event
abbrev pub level_before : ColumnEvents → ℕ → ℕ
level_before None level = level
level_before One level = 1 - level
level_before More level = level

abbrev pub start : Lane → ColumnCell → List ℕ
start lane cell = move_to (x_of lane 0) (y_of lane (level_before cell.events cell.level))

abbrev pub path_start : List ℕ
path_start = codes "<path" ++ (attribute (codes "class") (codes "level") ++ (codes " d=" ++ (34 ∷ [])))

abbrev pub path_end : List ℕ
path_end = 34 ∷ codes "/>"

-- bands and the path of a wire of width 1
abbrev pub bits : Lane → List ColumnCell → List ℕ
bits lane cells = drawn lane cells Bands ++ (path_start ++ (start lane (cell_at cells 0) ++ (drawn lane cells Bits ++ path_end)))

-- values and the path of a wider wire
abbrev pub words : Lane → List ColumnCell → List ℕ
words lane cells = drawn lane cells Values ++ (path_start ++ (drawn lane cells Words ++ path_end))

abbrev pub wire_shape : Lane → ℕ → List ColumnCell → List ℕ
wire_shape lane width cells = if width == 1 then bits lane cells else words lane cells

-- what the row of a wire begins with: its number, its width, its heights and its name
abbrev pub wire_start : Lane → ℕ → WireRecord → List ℕ
wire_start lane w wire =
    codes "<g" ++ (attribute (codes "class") (codes "wire")
    ++ (attribute (codes "id") (codes "wire-" ++ decimal w)
    ++ (number (codes "data-width") wire.width
    ++ (number (codes "data-top") (top lane)
    ++ (number (codes "data-bottom") (bottom lane)
    ++ (codes ">" ++ (title wire.name ++ text_from 8 (base lane) wire.name)))))))

abbrev pub wire_group : Lane → ℕ → WireRecord → List ColumnCell → List ℕ
wire_group lane w wire cells = wire_start lane w wire ++ (wire_shape lane wire.width cells ++ (codes "</g>" ++ (10 ∷ [])))
