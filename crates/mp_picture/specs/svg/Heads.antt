-- What an SVG begins with: its size, its range, the style and the times.
use Rattle.std.specs.Prelude.{ℕ, ◌+◌, ◌-◌, ◌*◌, List, [], ◌∷◌, ◌++◌, nat_lt, nat_le, ◌||◌, Bool, count_by, min, codes}
use Rattle.std.specs.List.{flat_map, range_with_len}
use Rattle.std.specs.Fmt.{decimal}
use Rattle.mp_picture.specs.Columns.{count, begin}
use Rattle.mp_picture.specs.Rows.{tick_step}
use Rattle.mp_picture.specs.declared.svg.frame.Frame.{Frame}
use Rattle.mp_picture.specs.svg.Elements.{attribute, escaped, number, text_from}
use Rattle.mp_picture.specs.svg.Frames.{column_x, tick_count}
use Rattle.mp_picture.specs.svg.Columns.{move_to, upright_to}
use Rattle.mp_picture.specs.svg.WireGroups.{path_end}
use Rattle.mp_picture.specs.svg.Styles.{style}

-- how high an SVG with so many rows is
abbrev pub height : ℕ → ℕ
height rows = 28 * rows + 44

-- which units the columns show, and where
abbrev pub range : Frame → List ℕ
range frame =
    number (codes "data-from") frame.columns.from
    ++ (number (codes "data-to") frame.columns.to
    ++ (number (codes "data-units") frame.columns.units
    ++ (number (codes "data-columns") (count frame.columns)
    ++ (number (codes "data-left") frame.left
    ++ number (codes "data-pitch") 8))))

abbrev pub view : ℕ → ℕ → List ℕ
view w h = attribute (codes "viewBox") (codes "0 0 " ++ (decimal w ++ (32 ∷ decimal h)))

abbrev pub root : Frame → ℕ → ℕ → List ℕ
root frame wide rows =
    codes "<svg" ++ (attribute (codes "xmlns") (codes "http://www.w3.org/2000/svg")
    ++ (number (codes "width") wide
    ++ (number (codes "height") (height rows)
    ++ (view wide (height rows)
    ++ (range frame ++ (codes ">" ++ (10 ∷ [])))))))

-- a time over an upright line
abbrev pub tick_mark : Frame → ℕ → ℕ → List ℕ
tick_mark frame rows i =
    let column = tick_step frame.columns * i in
    let x = column_x frame column in
    codes "<path d=" ++ (34 ∷ (move_to x 36 ++ (upright_to (height rows - 8) ++ (path_end ++ text_from x 30 (decimal (begin frame.columns column))))))

abbrev pub ticks : Frame → ℕ → List ℕ
ticks frame rows = flat_map (tick_mark frame rows) (range_with_len 0 (tick_count frame))

abbrev pub axis_start : List ℕ
axis_start = codes "<g" ++ (attribute (codes "class") (codes "axis") ++ codes ">")

-- the axis's title above the times
abbrev pub axis : Frame → ℕ → List ℕ → List ℕ
axis frame rows title = axis_start ++ (text_from frame.left 14 (escaped title) ++ (ticks frame rows ++ (codes "</g>" ++ (10 ∷ []))))

-- a byte of a text begins a character, and doesn't go on with one
abbrev pub begins_letter : ℕ → Bool
begins_letter b = nat_lt b 128 || nat_le 192 b

-- where the title ends, each letter as wide as a column, or its first 1,200 letters
abbrev pub title_end : Frame → List ℕ → ℕ
title_end frame title = frame.left + 8 * min (count_by begins_letter title) 1200

abbrev pub head : Frame → ℕ → ℕ → List ℕ → List ℕ
head frame wide rows title = root frame wide rows ++ (style ++ axis frame rows title)
