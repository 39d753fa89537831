-- The columns of a picture in which something is found.
use Rattle.std.specs.Prelude.{◌≡◌, ℕ, Bool, List, [], ◌∷◌, ◌++◌, map, if◌then◌else◌}
use Rattle.std.specs.BTreeSet.{contains}
use Rattle.mp_netlist.specs.Circuit.{Circuit}
use Rattle.mp_model.specs.declared.finding.Finding.{Finding}
use Rattle.mp_model.specs.declared.finding.Place.{Place}
use Rattle.mp_picture.specs.declared.columns.Columns.{Columns}
use Rattle.mp_picture.specs.declared.layout.DiagramLayout.{DiagramLayout}
use Rattle.mp_picture.specs.declared.marked_columns.MarkedColumns.{MarkedColumns}
use Rattle.mp_picture.specs.Columns.{numbers}
use Rattle.mp_picture.specs.Found.{is_marked, place_name, trimmed}
use Rattle.mp_picture.specs.PlaceKeys.{numbered_order, place_key}
use Rattle.mp_picture.specs.Rows.{padded}

-- a column is marked at a place
abbrev pub has_mark : MarkedColumns → Place → ℕ → Bool
has_mark all place j = contains numbered_order all.marked (place_key place, j)

-- the columns are marked in which these are found, and no others
abbrev pub AreMarked : Columns → List Finding → MarkedColumns → Type 0
AreMarked c found all = (place : Place) (j : ℕ) → has_mark all place j ≡ is_marked c place found j

-- `!` or a blank
abbrev pub mark_in : MarkedColumns → Place → ℕ → ℕ
mark_in all place j = if has_mark all place j then 33 else 32

-- for each column
abbrev pub marks_in : Columns → MarkedColumns → Place → List ℕ
marks_in c all place = map (mark_in all place) (numbers c)

-- the row of a place with these marks
abbrev pub marked_row : Circuit → DiagramLayout → MarkedColumns → Place → List ℕ
marked_row n layout all place = padded layout.margin (place_name n place) ++ (trimmed (marks_in layout.columns all place) ++ (10 ∷ []))
