-- Arrows between wires at times.
use Rattle.std.specs.Prelude.{ℕ, nat_le, nat_lt, ◌&&◌, Bool, List, [], ◌∷◌, ◌++◌, length, Option, Some, None, codes, if◌then◌else◌}
use Rattle.std.specs.List.{flat_map, list_any}
use Rattle.mp_records.specs.declared.ids.WireId.{WireId}
use Rattle.mp_picture.specs.Columns.{column_of}
use Rattle.mp_picture.specs.declared.svg.arrow.Arrow.{Arrow}
use Rattle.mp_picture.specs.declared.svg.arrow.WirePoint.{WirePoint}
use Rattle.mp_picture.specs.declared.svg.arrow_group.Spot.{Spot}
use Rattle.mp_picture.specs.declared.svg.frame.Frame.{Frame}
use Rattle.mp_picture.specs.svg.Elements.{attribute}
use Rattle.mp_picture.specs.svg.Columns.{move_to, line_to}
use Rattle.mp_picture.specs.svg.FoundGroups.{lead_x, wire_among}
use Rattle.mp_picture.specs.svg.Frames.{lane}
use Rattle.mp_picture.specs.svg.Lanes.{middle}
use Rattle.mp_picture.specs.svg.WireGroups.{path_end}

-- the wire has a row, and the time is in the range
abbrev pub is_shown : Frame → List WireId → WirePoint → Bool
is_shown frame wires p =
    nat_lt (wire_among wires p.wire) (length wires) && (nat_le frame.columns.from p.time && nat_lt p.time frame.columns.to)

-- where a wire is at a time: at the edge of that time, or in the middle of its column, and in the middle of the wire's row
abbrev pub spot_of : Frame → List WireId → WirePoint → Option Spot
spot_of frame wires p =
    if is_shown frame wires p
    then Some (record { x = lead_x frame (column_of frame.columns p.time); y = middle (lane frame (wire_among wires p.wire)) })
    else None

-- a line between two points
abbrev pub between : Option Spot → Option Spot → List ℕ
between None to = []
between (Some a) None = []
between (Some a) (Some b) = codes "<path d=" ++ (34 ∷ (move_to a.x a.y ++ (line_to b.x b.y ++ path_end)))

abbrev pub arrow_text : Frame → List WireId → Arrow → List ℕ
arrow_text frame wires a = between (spot_of frame wires a.from) (spot_of frame wires a.to)

-- ---- the group

abbrev pub arrow_style : List ℕ
arrow_style =
    codes "<style>"
    ++ (codes ".causes path{fill:none;stroke:#8250df;stroke-width:1.5;marker-end:url(#head)}"
    ++ (codes "#head path{fill:#8250df}"
    ++ (codes "@media (prefers-color-scheme:dark){"
    ++ (codes ".causes path{stroke:#a371f7}"
    ++ (codes "#head path{fill:#a371f7}"
    ++ codes "}</style>")))))

-- the head of an arrow, which turns with its line
abbrev pub arrow_head : List ℕ
arrow_head =
    codes "<defs><marker"
    ++ (attribute (codes "id") (codes "head")
    ++ (attribute (codes "viewBox") (codes "0 0 8 8")
    ++ (attribute (codes "refX") (codes "7")
    ++ (attribute (codes "refY") (codes "4")
    ++ (attribute (codes "markerWidth") (codes "7")
    ++ (attribute (codes "markerHeight") (codes "7")
    ++ (attribute (codes "orient") (codes "auto")
    ++ (codes "><path" ++ (attribute (codes "d") (codes "M0 1L8 4L0 7Z") ++ codes "/></marker></defs>")))))))))

unfoldable pub arrows_start : List ℕ
arrows_start = arrow_style ++ (arrow_head ++ (codes "<g" ++ (attribute (codes "class") (codes "causes") ++ codes ">")))

-- the arrows of which both ends are in the picture
abbrev pub arrow_list : Frame → List WireId → List Arrow → List ℕ
arrow_list frame wires arrows = arrows_start ++ (flat_map (arrow_text frame wires) arrows ++ (codes "</g>" ++ (10 ∷ [])))

abbrev pub is_drawn : Frame → List WireId → Arrow → Bool
is_drawn frame wires a = is_shown frame wires a.from && is_shown frame wires a.to

-- and nothing where none is
abbrev pub arrow_group : Frame → List WireId → List Arrow → List ℕ
arrow_group frame wires arrows = if list_any (is_drawn frame wires) arrows then arrow_list frame wires arrows else []
