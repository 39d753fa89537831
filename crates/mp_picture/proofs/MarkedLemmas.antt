-- The columns in which something is found.
use Rattle.std.proofs.Common.{◌≡◌, ℕ, ◌+◌, ◌<◌, ◌==◌, ◌&&◌, ◌||◌, Bool, true, cond, List, [], ◌∷◌, ◌++◌, length, map, get_or, take, sym, ap, ◌∙◌}
use Rattle.std.specs.BTreeMap.{is_at}
use Rattle.std.proofs.lemmas.List.Folds.{list_any_more}
use Rattle.mp_netlist.specs.Circuit.{Circuit}
use Rattle.mp_model.specs.declared.finding.Place.{Place}
use Rattle.mp_model.specs.declared.finding.Finding.{Finding}
use Rattle.mp_picture.specs.declared.columns.Columns.{Columns}
use Rattle.mp_picture.specs.declared.layout.DiagramLayout.{DiagramLayout}
use Rattle.mp_picture.specs.declared.marked_columns.MarkedColumns.{MarkedColumns}
use Rattle.mp_picture.specs.Columns.{column_of, numbers}
use Rattle.mp_picture.specs.Found.{is_marked, is_place, place_name, place_row, trimmed}
use Rattle.mp_picture.specs.MarkedColumns.{AreMarked, marked_row}
use Rattle.mp_picture.specs.PlaceKeys.{numbered_order, place_key}
use Rattle.mp_picture.specs.Rows.{padded}
use Rattle.mp_picture.proofs.FoundLemmas.{either_way}
use Rattle.mp_picture.proofs.PlaceKeyLemmas.{either_of, numbered_tell}

-- with the column of one finding more
pub marked_more : (c : Columns) (p : Place) (j : ℕ) (fs : List Finding) (i : ℕ) (d : Finding) (before : Bool) → i < length fs → before ≡ is_marked c p (take i fs) j
    → cond (is_at (numbered_order (place_key (get_or fs i d).place, column_of c (get_or fs i d).time)) (place_key p, j)) true before ≡ is_marked c p (take (i + 1) fs) j
marked_more c p j fs i d before within is =
    let f = get_or fs i d in
    let test : Finding → Bool = (λ (g : Finding). is_place p g.place && column_of c g.time == j) in
    ap (λ (b : Bool). cond b true before)
    (numbered_tell f.place p (column_of c f.time) j ∙ ap (λ (b : Bool). b && (column_of c f.time == j)) (either_way f.place p))
    ∙ either_of before (test f)
    ∙ ap (λ (b : Bool). b || test f) is
    ∙ sym (list_any_more test fs i d within)

-- the row of a place has the marks of what is found there
pub row_is : (n : Circuit) (layout : DiagramLayout) (found : List Finding) (all : MarkedColumns) (p : Place) → AreMarked layout.columns found all → marked_row n layout all p ≡ place_row n layout p found
row_is n layout found all p are =
    λ i. padded layout.margin (place_name n p) ++ (trimmed (map (λ (j : ℕ). cond (are p j i) 33 32) (numbers layout.columns)) ++ (10 ∷ []))
