-- The SVG of a netlist's waves.
use Rattle.std.specs.Prelude.{ℕ, ◌+◌, ◌*◌, List, [], ◌∷◌, ◌++◌, length, max, min, Option, Some, None, codes}
use Rattle.std.specs.List.{flat_map, enumerate_from}
use Rattle.mp_records.specs.declared.ids.WireId.{WireId}
use Rattle.mp_records.specs.declared.wire_record.WireRecord.{WireRecord}
use Rattle.mp_netlist.specs.Circuit.{Circuit, wire_at}
use Rattle.mp_model.specs.Waves.{level}
use Rattle.mp_model.specs.Findings.{findings}
use Rattle.mp_model.specs.declared.finding.Finding.{Finding}
use Rattle.mp_picture.specs.declared.columns.Columns.{Columns}
use Rattle.mp_picture.specs.declared.numerals.Numerals.{Numerals}
use Rattle.mp_picture.specs.Cells.{cells}
use Rattle.mp_picture.specs.Diagrams.{margin}
use Rattle.mp_picture.specs.Found.{place_rows, within}
use Rattle.mp_picture.specs.declared.svg.frame.Frame.{Frame}
use Rattle.mp_picture.specs.declared.svg.arrow.Arrow.{Arrow}
use Rattle.mp_picture.specs.svg.Arrows.{arrow_group}
use Rattle.mp_picture.specs.svg.Frames.{end, lane}
use Rattle.mp_picture.specs.svg.Heads.{head, title_end}
use Rattle.mp_picture.specs.declared.svg.mark_rows.MarkRow.{MarkRow}
use Rattle.mp_picture.specs.svg.MarkRows.{mark_rows}
use Rattle.mp_picture.specs.svg.FoundGroups.{mark_groups, finding_groups, lead_group, words_end}
use Rattle.mp_picture.specs.svg.WireGroups.{wire_group}

-- how many columns an SVG has at most
abbrev pub most_columns : ℕ
most_columns = 1200

-- the row of what stands in a wire's slot
abbrev pub slot_group : Circuit → Frame → ℕ → ℕ → Option WireRecord → List ℕ
slot_group n frame row w None = []
slot_group n frame row w (Some r) = wire_group (lane frame row) w r (cells (level n w) frame.columns)

abbrev pub wire_row : Circuit → Frame → ℕ → WireId → List ℕ
wire_row n frame row wire = slot_group n frame row wire.0 (wire_at n wire.0)

-- a row each
abbrev pub wire_rows : Circuit → Frame → List WireId → List ℕ
wire_rows n frame wires = flat_map (λ row. wire_row n frame row.0 row.1) (enumerate_from 0 wires)

-- how wide an SVG is: up to where its columns, times, title and words end, and a column more
abbrev pub sheet_width : Frame → List ℕ → List MarkRow → ℕ
sheet_width frame title rows = max (max (end frame) (title_end frame title)) (words_end frame rows) + 8

-- the head, the lines from marks to wires, the wires, the codes with findings below them, the marks of these findings, and the arrows
unfoldable pub sheet : Circuit → Frame → List ℕ → List WireId → List MarkRow → List Finding → List Arrow → List ℕ
sheet n frame title wires rows found arrows =
    head frame (sheet_width frame title rows) (length wires + length rows) title
    ++ (lead_group n frame wires rows found
    ++ (wire_rows n frame wires
    ++ (mark_groups n frame (length wires) rows
    ++ (finding_groups n frame (length wires) rows found
    ++ (arrow_group frame wires arrows
    ++ (codes "</svg>" ++ (10 ∷ [])))))))

-- where the columns begin: behind names of so many letters, 32 at most, and two more
abbrev pub left : ℕ → ℕ
left margin = 8 * min margin 34

-- the SVG of some wires, with what the report finds in the range, with a title above the times, and with arrows
unfoldable pub svg : Circuit → Columns → Numerals → List WireId → List ℕ → List Arrow → List ℕ
svg n columns numerals wires title arrows =
    let found = within columns (findings n) in
    let places = place_rows found in
    sheet n (record { left = left (margin n wires places); columns = columns; numerals = numerals }) title wires (mark_rows columns places found) found arrows
