-- The rows of what is found in a picture.
use Rattle.std.specs.Prelude.{◌≡◌, ℕ, ◌==◌, Bool, ◌&&◌, List, [], ◌∷◌, Option, Some, None, fold, if◌then◌else◌}
use Rattle.std.specs.List.{flat_map, position}
use Rattle.mp_modules.specs.Findings.{by_number, code_number}
use Rattle.mp_modules.specs.declared.finding_code.FindingCode.{FindingCode}
use Rattle.mp_model.specs.declared.finding.Place.{Place}
use Rattle.mp_model.specs.declared.finding.Finding.{Finding}
use Rattle.mp_picture.specs.declared.columns.Columns.{Columns}
use Rattle.mp_picture.specs.Columns.{column_of}
use Rattle.mp_picture.specs.Found.{is_place}
use Rattle.mp_picture.specs.declared.svg.mark_numbers.MarkNumbers.{MarkNumbers}
use Rattle.mp_picture.specs.declared.svg.mark_rows.MarkRow.{MarkRow}
use Rattle.mp_picture.specs.svg.MarkNumbers.{is_mark, number_of}

-- a code is found at a place
abbrev pub is_at : Place → FindingCode → Finding → Bool
is_at place code f = is_place place f.place && code_number code == code_number f.code

-- the column of the last finding of a code at a place, if there is one
abbrev pub last_of : Columns → Place → FindingCode → List Finding → Option ℕ
last_of c place code found = fold (λ last f. if is_at place code f then Some (column_of c f.time) else last) None found

-- a row for a code that is found
abbrev pub row_if : Place → FindingCode → Option ℕ → List MarkRow
row_if place code None = []
row_if place code (Some last) = record { place = place; code = code; last = last } ∷ []

-- a row for each code that is found at a place, by number
abbrev pub rows_at : Columns → List Finding → Place → List MarkRow
rows_at c found place = flat_map (λ code. row_if place code (last_of c place code found)) by_number

-- for each place
abbrev pub mark_rows : Columns → List Place → List Finding → List MarkRow
mark_rows c places found = flat_map (rows_at c found) places

-- the numbers of codes at places are those of their first rows
abbrev pub HasFirstRows : List MarkRow → MarkNumbers → Type 0
HasFirstRows rows firsts = (place : Place) (code : FindingCode) → number_of firsts place code ≡ position (λ (r : MarkRow). is_mark r.place r.code place code) rows
