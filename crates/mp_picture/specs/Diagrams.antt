-- The timing diagram of a netlist as text.
use Rattle.std.specs.Prelude.{ℕ, ◌+◌, List, [], ◌∷◌, ◌++◌, length, map, max, Option, Some, None}
use Rattle.std.specs.List.{flat_map}
use Rattle.mp_records.specs.declared.ids.WireId.{WireId}
use Rattle.mp_records.specs.declared.wire_record.WireRecord.{WireRecord}
use Rattle.mp_netlist.specs.Circuit.{Circuit, wire_at}
use Rattle.mp_model.specs.Waves.{level}
use Rattle.mp_model.specs.Findings.{findings}
use Rattle.mp_model.specs.declared.finding.Place.{Place}
use Rattle.mp_model.specs.declared.finding.Finding.{Finding}
use Rattle.mp_report.specs.Lines.{finding_lines}
use Rattle.mp_text.specs.Written.{wire_name}
use Rattle.mp_picture.specs.declared.columns.Columns.{Columns}
use Rattle.mp_picture.specs.declared.layout.DiagramLayout.{DiagramLayout}
use Rattle.mp_picture.specs.declared.mark.Charset.{Charset}
use Rattle.mp_picture.specs.declared.numerals.Numerals.{Numerals}
use Rattle.mp_picture.specs.Cells.{cells}
use Rattle.mp_picture.specs.Found.{place_name, place_row, place_rows, within}
use Rattle.mp_picture.specs.Rows.{ruler, wire_row}

-- the length of the longest of some texts
abbrev pub longest : List (List ℕ) → ℕ
longest [] = 0
longest (text ∷ texts) = max (length text) (longest texts)

-- the width of the names of a picture
abbrev pub margin : Circuit → List WireId → List Place → ℕ
margin n wires places = max (longest (map (wire_name n) wires)) (longest (map (place_name n) places)) + 2

-- the row of what stands in a wire's slot
abbrev pub slot_row : Circuit → DiagramLayout → ℕ → Option WireRecord → List ℕ
slot_row n layout w None = []
slot_row n layout w (Some r) = wire_row layout r (cells (level n w) layout.columns)

abbrev pub wire_line : Circuit → DiagramLayout → WireId → List ℕ
wire_line n layout wire = slot_row n layout wire.0 (wire_at n wire.0)

-- the times, the wires, the places with findings, and the report's lines of these findings
abbrev pub rows : Circuit → DiagramLayout → List WireId → List Place → List Finding → List ℕ
rows n layout wires places found =
    ruler layout
    ++ (flat_map (wire_line n layout) wires
    ++ (flat_map (λ place. place_row n layout place found) places
    ++ finding_lines n found))

-- the diagram of some wires, given what is found in the range
unfoldable pub diagram_given : Circuit → Columns → Charset → Numerals → List WireId → List Finding → List ℕ
diagram_given n columns charset numerals wires found =
    let places = place_rows found in
    rows n (record { columns = columns; charset = charset; numerals = numerals; margin = margin n wires places }) wires places found

-- the diagram of some wires, with what the report finds in the range
unfoldable pub diagram : Circuit → Columns → Charset → Numerals → List WireId → List ℕ
diagram n columns charset numerals wires = diagram_given n columns charset numerals wires (within columns (findings n))
