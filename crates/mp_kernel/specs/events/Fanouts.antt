-- Rows that lie one after the other in one list, and those that have one entry alone beside it.
use Rattle.std.specs.Prelude.{◌≡◌, ℕ, ◌-◌, ◌≤◌, List, [], ◌∷◌, take, drop, ◌==◌, if◌then◌else◌}
use Rattle.mp_kernel.specs.declared.events.fanout_entry.FanoutEntry.{FanoutEntry}

-- the rows that end at these places, the first beginning at a place
abbrev pub rows_from : ℕ → List ℕ → List FanoutEntry → List (List FanoutEntry)
rows_from start [] list = []
rows_from start (end ∷ ends) list = take (end - start) (drop start list) ∷ rows_from end ends list

-- the rows between each place and the next
abbrev pub rows_of : List ℕ → List FanoutEntry → List (List FanoutEntry)
rows_of [] list = []
rows_of (start ∷ ends) list = rows_from start ends list

-- the places rise to the last, which is this
abbrev pub Rises : ℕ → List ℕ → ℕ → Type 0
Rises start [] size = start ≡ size
Rises start (end ∷ ends) size = (start ≤ end) × Rises end ends size

abbrev pub ArePlaces : List ℕ → ℕ → Type 0
ArePlaces [] size = ⊥
ArePlaces (start ∷ ends) size = Rises start ends size

-- the only entry of a row, and else one without an event
abbrev pub no_entry : FanoutEntry
no_entry = record { «module» = 0; event = 0 }

abbrev pub head_of : List FanoutEntry → FanoutEntry
head_of [] = no_entry
head_of (only ∷ []) = only
head_of (first ∷ second ∷ others) = no_entry

-- what of a row is listed, beside its head
abbrev pub listed_of : List FanoutEntry → List FanoutEntry
listed_of [] = []
listed_of (only ∷ []) = if only.event == 0 then only ∷ [] else []
listed_of (first ∷ second ∷ others) = first ∷ second ∷ others

-- the row with this head, of which so much is listed
abbrev pub row_by : FanoutEntry → List FanoutEntry → List FanoutEntry
row_by head listed = if head.event == 0 then listed else head ∷ []

abbrev pub rows_by : List FanoutEntry → List (List FanoutEntry) → List (List FanoutEntry)
rows_by [] rows = []
rows_by (head ∷ heads) [] = row_by head [] ∷ rows_by heads []
rows_by (head ∷ heads) (row ∷ rows) = row_by head row ∷ rows_by heads rows
