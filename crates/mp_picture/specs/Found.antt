-- What the report finds in a picture, and its rows.
use Rattle.std.specs.Prelude.{ℕ, ◌-◌, ◌==◌, nat_le, nat_lt, Bool, true, false, not, ◌&&◌, List, [], ◌∷◌, ◌++◌, map, length, take, Option, Some, None, if◌then◌else◌}
use Rattle.std.specs.List.{filter, list_any, suffix_len}
use Rattle.mp_records.specs.declared.module_record.ModuleRecord.{ModuleRecord}
use Rattle.mp_records.specs.declared.bundle_record.BundleRecord.{BundleRecord}
use Rattle.mp_netlist.specs.Circuit.{Circuit, module_at, bundle_at}
use Rattle.mp_model.specs.declared.finding.Place.{Place}
use Rattle.mp_model.specs.declared.finding.Place.TheVariants.{Module, Bundle}
use Rattle.mp_model.specs.declared.finding.Finding.{Finding}
use Rattle.mp_picture.specs.declared.columns.Columns.{Columns}
use Rattle.mp_picture.specs.declared.layout.DiagramLayout.{DiagramLayout}
use Rattle.mp_picture.specs.Columns.{numbers, column_of}
use Rattle.mp_picture.specs.Rows.{padded}

-- a finding at a time in the range
abbrev pub is_within : Columns → Finding → Bool
is_within c found = nat_le c.from found.time && nat_lt found.time c.to

abbrev pub within : Columns → List Finding → List Finding
within c found = filter (is_within c) found

-- ---- the places that have a row

abbrev pub is_place : Place → Place → Bool
is_place (Module m) (Module k) = m.0 == k.0
is_place (Module m) (Bundle b) = false
is_place (Bundle b) (Module m) = false
is_place (Bundle b) (Bundle d) = b.0 == d.0

abbrev pub is_module : Place → Bool
is_module (Module m) = true
is_module (Bundle b) = false

-- the places of findings, each once, in the order of their first
abbrev pub places_of : List Finding → List Place
places_of [] = []
places_of (found ∷ others) = found.place ∷ filter (λ other. not (is_place found.place other)) (places_of others)

-- the modules and then the bundles
abbrev pub place_rows : List Finding → List Place
place_rows found = filter is_module (places_of found) ++ filter (λ place. not (is_module place)) (places_of found)

-- ---- the row of a place

-- something is found at the place in a column
abbrev pub is_marked : Columns → Place → List Finding → ℕ → Bool
is_marked c place found j = list_any (λ (f : Finding). is_place place f.place && column_of c f.time == j) found

abbrev pub mark_at : Columns → Place → List Finding → ℕ → ℕ
mark_at c place found j = if is_marked c place found j then 33 else 32

-- `!` or a blank for each column
abbrev pub marks : Columns → Place → List Finding → List ℕ
marks c place found = map (mark_at c place found) (numbers c)

-- without the blanks at the end
abbrev pub trimmed : List ℕ → List ℕ
trimmed text = take (length text - suffix_len (λ b. b == 32) text) text

abbrev pub module_name : Option ModuleRecord → List ℕ
module_name None = []
module_name (Some r) = r.name

abbrev pub bundle_name : Option BundleRecord → List ℕ
bundle_name None = []
bundle_name (Some r) = r.name

-- the name of what stands at a place
abbrev pub place_name : Circuit → Place → List ℕ
place_name n (Module m) = module_name (module_at n m.0)
place_name n (Bundle b) = bundle_name (bundle_at n b.0)

-- the name, filled to the width of the names, the marks and a line feed
abbrev pub place_row : Circuit → DiagramLayout → Place → List Finding → List ℕ
place_row n layout place found = padded layout.margin (place_name n place) ++ (trimmed (marks layout.columns place found) ++ (10 ∷ []))
