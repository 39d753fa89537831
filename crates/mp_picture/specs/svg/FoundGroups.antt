-- The rows of modules and bundles with findings, and the marks in them.
use Rattle.std.specs.Prelude.{ℕ, ◌+◌, ◌-◌, ◌*◌, ◌==◌, nat_lt, max, fold, not, List, [], ◌∷◌, ◌++◌, length, Option, Some, None, codes, if◌then◌else◌}
use Rattle.std.specs.List.{flat_map, enumerate_from, prefix_len}
use Rattle.std.specs.Fmt.{decimal}
use Rattle.mp_modules.specs.Findings.{code_word}
use Rattle.mp_records.specs.declared.ids.WireId.{WireId}
use Rattle.mp_records.specs.declared.ports.Input.{Input}
use Rattle.mp_records.specs.declared.module_record.ModuleRecord.{ModuleRecord}
use Rattle.mp_records.specs.declared.bundle_record.BundleRecord.{BundleRecord}
use Rattle.mp_netlist.specs.Circuit.{Circuit, module_at, bundle_at}
use Rattle.mp_model.specs.declared.finding.Place.{Place}
use Rattle.mp_model.specs.declared.finding.Place.TheVariants.{Module, Bundle}
use Rattle.mp_model.specs.declared.finding.Finding.{Finding}
use Rattle.mp_report.specs.Lines.{finding_text}
use Rattle.mp_picture.specs.Columns.{column_of}
use Rattle.mp_picture.specs.Found.{place_name}
use Rattle.mp_picture.specs.declared.svg.frame.Frame.{Frame}
use Rattle.mp_picture.specs.declared.svg.lane.Lane.{Lane}
use Rattle.mp_picture.specs.declared.svg.mark_rows.MarkRow.{MarkRow}
use Rattle.mp_picture.specs.svg.Elements.{attribute, number, title, text_from}
use Rattle.mp_picture.specs.svg.Columns.{move_to, line_to, across_to, upright_to}
use Rattle.mp_picture.specs.svg.Frames.{column_x, lane}
use Rattle.mp_picture.specs.svg.Lanes.{x_of, top, middle, base}
use Rattle.mp_picture.specs.svg.MarkRows.{is_at}
use Rattle.mp_picture.specs.svg.WireGroups.{path_end}

abbrev pub place_kind : Place → List ℕ
place_kind (Module m) = codes "module"
place_kind (Bundle b) = codes "bundle"

abbrev pub place_number : Place → ℕ
place_number (Module m) = m.0
place_number (Bundle b) = b.0

-- ---- rows

-- the word of a code, behind the last mark of its row
abbrev pub word_text : Lane → MarkRow → List ℕ
word_text row r =
    codes "<g" ++ (attribute (codes "class") (codes "word") ++ (codes ">" ++ (text_from (x_of row (r.last + 1) + 4) (base row) (code_word r.code) ++ codes "</g>")))

-- the row of a code that is found at a place: the place's name, and the word of the code
abbrev pub mark_group : Circuit → Lane → MarkRow → List ℕ
mark_group n row r =
    codes "<g" ++ (attribute (codes "class") (codes "place")
    ++ (attribute (codes "id") (place_kind r.place ++ (45 ∷ (decimal (place_number r.place) ++ (45 ∷ code_word r.code))))
    ++ (codes ">" ++ (title (place_name n r.place) ++ (text_from 8 (base row) (place_name n r.place) ++ (word_text row r ++ (codes "</g>" ++ (10 ∷ []))))))))

-- a row each, from one on
abbrev pub mark_groups : Circuit → Frame → ℕ → List MarkRow → List ℕ
mark_groups n frame first rows = flat_map (λ row. mark_group n (lane frame row.0) row.1) (enumerate_from first rows)

-- where the word of a row ends, each letter as wide as a column
abbrev pub word_end : Frame → MarkRow → ℕ
word_end frame r = column_x frame (r.last + 1) + 4 + 8 * length (code_word r.code)

-- where the last of them ends
abbrev pub words_end : Frame → List MarkRow → ℕ
words_end frame rows = fold (λ end r. max (word_end frame r) end) 0 rows

-- ---- marks

-- a rhomb as wide as a column
abbrev pub mark : Lane → ℕ → List ℕ
mark row j =
    codes "<path d=" ++ (34 ∷ (move_to (x_of row j) (top row + 8)
    ++ (line_to (x_of row j + 4) (top row + 2)
    ++ (line_to (x_of row (j + 1)) (top row + 8) ++ (line_to (x_of row j + 4) (top row + 14) ++ (90 ∷ path_end))))))

-- a mark in a row, in the column of the finding's time
abbrev pub finding_group : Circuit → Frame → Lane → Finding → List ℕ
finding_group n frame row f =
    codes "<g" ++ (attribute (codes "class") (codes "finding")
    ++ (number (codes "data-column") (column_of frame.columns f.time)
    ++ (codes ">" ++ (title (finding_text n f []) ++ (mark row (column_of frame.columns f.time) ++ (codes "</g>" ++ (10 ∷ [])))))))

-- how many rows stand before that of a finding
abbrev pub row_among : List MarkRow → Finding → ℕ
row_among rows f = prefix_len (λ (r : MarkRow). not (is_at r.place r.code f)) rows

-- a mark for each finding in its row, where the rows are those from one on
abbrev pub finding_groups : Circuit → Frame → ℕ → List MarkRow → List Finding → List ℕ
finding_groups n frame first rows found = flat_map (λ (f : Finding). finding_group n frame (lane frame (first + row_among rows f)) f) found

-- ---- lines from marks to wires

-- the row of a wire among some wires: how many stand before it
abbrev pub wire_among : List WireId → WireId → ℕ
wire_among wires wire = prefix_len (λ (v : WireId). not (v.0 == wire.0)) wires

-- a line from a point up to the row of a wire, where it has one, with a stroke across its end
abbrev pub lead_to : Frame → List WireId → ℕ → ℕ → WireId → List ℕ
lead_to frame wires x y wire =
    if nat_lt (wire_among wires wire) (length wires)
    then move_to x y ++ (upright_to (middle (lane frame (wire_among wires wire)))
    ++ (move_to (x - 3) (middle (lane frame (wire_among wires wire))) ++ across_to (x + 3)))
    else []

-- the wires of a place are the inputs of a module, and the three of a bundle
abbrev pub module_leads : Frame → List WireId → ℕ → ℕ → Option ModuleRecord → List ℕ
module_leads frame wires x y None = []
module_leads frame wires x y (Some r) = flat_map (λ (input : Input). lead_to frame wires x y input.wire) r.inputs

abbrev pub bundle_leads : Frame → List WireId → ℕ → ℕ → Option BundleRecord → List ℕ
bundle_leads frame wires x y None = []
bundle_leads frame wires x y (Some r) = lead_to frame wires x y r.request ++ (lead_to frame wires x y r.acknowledge ++ lead_to frame wires x y r.payload)

abbrev pub place_leads : Circuit → Frame → List WireId → ℕ → ℕ → Place → List ℕ
place_leads n frame wires x y (Module m) = module_leads frame wires x y (module_at n m.0)
place_leads n frame wires x y (Bundle b) = bundle_leads frame wires x y (bundle_at n b.0)

-- a line begins at the time of its mark: in columns of one unit at their begin, and else in their middle
abbrev pub lead_x : Frame → ℕ → ℕ
lead_x frame j = if frame.columns.units == 1 then column_x frame j else column_x frame j + 4

abbrev pub lead : Circuit → Frame → List WireId → Lane → Finding → List ℕ
lead n frame wires row f =
    codes "<path d=" ++ (34 ∷ (place_leads n frame wires (lead_x frame (column_of frame.columns f.time)) (top row + 8) f.place ++ path_end))

-- the lines of the marks of all findings
abbrev pub leads : Circuit → Frame → List WireId → List MarkRow → List Finding → List ℕ
leads n frame wires rows found = flat_map (λ (f : Finding). lead n frame wires (lane frame (length wires + row_among rows f)) f) found

abbrev pub lead_group : Circuit → Frame → List WireId → List MarkRow → List Finding → List ℕ
lead_group n frame wires rows found =
    codes "<g" ++ (attribute (codes "class") (codes "leads") ++ (codes ">" ++ (leads n frame wires rows found ++ (codes "</g>" ++ (10 ∷ [])))))
