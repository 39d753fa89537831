-- What is drawn of a wire in a column.
use Rattle.std.specs.Prelude.{ℕ, ◌+◌, ◌*◌, ◌==◌, nat_le, nat_lt, ◌&&◌, Bool, true, false, List, [], ◌∷◌, ◌++◌, length, drop, get_or, codes, if◌then◌else◌}
use Rattle.std.specs.List.{flat_map, prefix_len, range_with_len}
use Rattle.std.specs.Fmt.{decimal}
use Rattle.mp_picture.specs.declared.cell.ColumnCell.{ColumnCell}
use Rattle.mp_picture.specs.declared.cell.ColumnEvents.{ColumnEvents}
use Rattle.mp_picture.specs.declared.cell.ColumnEvents.TheVariants.{None, One, More}
use Rattle.mp_picture.specs.Levels.{level_text}
use Rattle.mp_picture.specs.Rows.{is_still}
use Rattle.mp_picture.specs.declared.svg.lane.Lane.{Lane}
use Rattle.mp_picture.specs.declared.svg.svg_drawing.SvgDrawing.{SvgDrawing}
use Rattle.mp_picture.specs.declared.svg.svg_drawing.SvgDrawing.TheVariants.{Bands, Bits, Values, Words}
use Rattle.mp_picture.specs.svg.Lanes.{x_of, top, bottom, middle, base, y_of}
use Rattle.mp_picture.specs.svg.Elements.{attribute, number, title, text_from, rectangle}

-- ---- the commands of a path

abbrev pub move_to : ℕ → ℕ → List ℕ
move_to x y = 77 ∷ (decimal x ++ (32 ∷ decimal y))

abbrev pub line_to : ℕ → ℕ → List ℕ
line_to x y = 76 ∷ (decimal x ++ (32 ∷ decimal y))

abbrev pub across_to : ℕ → List ℕ
across_to x = 72 ∷ decimal x

abbrev pub upright_to : ℕ → List ℕ
upright_to y = 86 ∷ decimal y

-- ---- wires of width 1

-- up to the end of a column: flat without an event, upright and flat or aslant with one, and a gap with more
abbrev pub bit_path : Lane → ℕ → ColumnEvents → ℕ → List ℕ
bit_path lane j None level = across_to (x_of lane (j + 1))
bit_path lane j One level =
    if lane.units == 1 then upright_to (y_of lane level) ++ across_to (x_of lane (j + 1)) else line_to (x_of lane (j + 1)) (y_of lane level)
bit_path lane j More level = move_to (x_of lane (j + 1)) (y_of lane level)

-- a band stands in the gap
abbrev pub band : Lane → ℕ → ColumnEvents → List ℕ
band lane j None = []
band lane j One = []
band lane j More = rectangle (codes "<rect" ++ attribute (codes "class") (codes "band")) (x_of lane j) (top lane) 8

-- ---- wider wires

-- in columns of several units two lines without an event, and a cross with one or more
abbrev pub wide_path : Lane → ℕ → Bool → List ℕ
wide_path lane j true =
    move_to (x_of lane j) (top lane)
    ++ (across_to (x_of lane (j + 1)) ++ (move_to (x_of lane j) (bottom lane) ++ across_to (x_of lane (j + 1))))
wide_path lane j false =
    move_to (x_of lane j) (top lane)
    ++ (line_to (x_of lane (j + 1)) (bottom lane) ++ (move_to (x_of lane j) (bottom lane) ++ line_to (x_of lane (j + 1)) (top lane)))

-- in columns of one unit the middle of a cross is at the time of its event: a line comes from there, and goes to that of the next column
abbrev pub line_start : Lane → ℕ → ℕ → Bool → List ℕ
line_start lane j y true = move_to (x_of lane j) y
line_start lane j y false = move_to (x_of lane j) (middle lane) ++ line_to (x_of lane j + 3) y

abbrev pub line_end : Lane → ℕ → ℕ → Bool → List ℕ
line_end lane j y true = across_to (x_of lane (j + 1))
line_end lane j y false = line_to (x_of lane j + 5) y ++ line_to (x_of lane (j + 1)) (middle lane)

abbrev pub word_line : Lane → ℕ → ℕ → Bool → Bool → List ℕ
word_line lane j y still next = line_start lane j y still ++ line_end lane j y next

-- by whether a column has no event, and the next one none
abbrev pub word_path : Lane → ℕ → Bool → Bool → List ℕ
word_path lane j still next =
    if lane.units == 1 then word_line lane j (top lane) still next ++ word_line lane j (bottom lane) still next else wide_path lane j still

-- a text from a point on, where it fits into so many columns
abbrev pub fitting_text : ℕ → ℕ → ℕ → List ℕ → List ℕ
fitting_text x y room text = if nat_le (length text) room then text_from x y text else []

abbrev pub value_start : ℕ → ℕ → List ℕ
value_start j level =
    codes "<g" ++ (attribute (codes "class") (codes "value") ++ (number (codes "data-column") j ++ (number (codes "data-level") level ++ codes ">")))

-- the value of a column: a frame over it and the columns without an event behind it, and the level from a point on. What programs read has it in decimal.
abbrev pub value_group : Lane → ℕ → ℕ → ℕ → ℕ → ℕ → List ℕ
value_group lane j x room later level =
    value_start j level
    ++ (title (level_text lane.numerals level)
    ++ (rectangle (codes "<rect") (x_of lane j) (top lane) (8 * (later + 1))
    ++ (fitting_text x (base lane) room (level_text lane.numerals level) ++ codes "</g>")))

-- how many columns behind one have no event, up to the next that has
abbrev pub still_behind : List ColumnCell → ℕ → ℕ
still_behind cells j = prefix_len is_still (drop (j + 1) cells)

-- where a level stands behind the cross of a column
abbrev pub value_x : Lane → ℕ → ℕ
value_x lane j = if lane.units == 1 then x_of lane j + 4 else x_of lane (j + 1)

-- how many digits the level of the first column may have where so many columns behind it have no event: a cross begins before its time
abbrev pub first_room : Lane → ℕ → ℕ → ℕ
first_room lane later count = if lane.units == 1 && nat_lt (later + 1) count then later else later + 1

-- the first column has a value, and each with an event, where the level stands behind the cross
abbrev pub value : Lane → List ColumnCell → ℕ → ColumnCell → List ℕ
value lane cells j cell =
    if is_still cell
    then (if j == 0 then value_group lane j (x_of lane j) (first_room lane (still_behind cells j) (length cells)) (still_behind cells j) cell.level else [])
    else value_group lane j (value_x lane j) (still_behind cells j) (still_behind cells j) cell.level

-- ---- a column

abbrev pub cell_at : List ColumnCell → ℕ → ColumnCell
cell_at cells j = get_or cells j (record { events = None; level = 0 })

abbrev pub column_text : Lane → List ColumnCell → SvgDrawing → ℕ → List ℕ
column_text lane cells Bands j = band lane j (cell_at cells j).events
column_text lane cells Bits j = bit_path lane j (cell_at cells j).events (cell_at cells j).level
column_text lane cells Values j = value lane cells j (cell_at cells j)
column_text lane cells Words j = word_path lane j (is_still (cell_at cells j)) (is_still (cell_at cells (j + 1)))

-- column by column
abbrev pub drawn : Lane → List ColumnCell → SvgDrawing → List ℕ
drawn lane cells drawing = flat_map (column_text lane cells drawing) (range_with_len 0 (length cells))
