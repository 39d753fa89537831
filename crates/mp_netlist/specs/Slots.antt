-- Slots: a place for each number of a thing, empty where there is none now.
use Rattle.std.specs.Prelude.{ℕ, Bool, false, List, Option, Some, None, slice_index_or}
use Rattle.std.specs.List.{position_from}
use Rattle.std.specs.Str.{bytes_eq}

abbrev pub slot_at : {R : Type 0} → List (Option R) → ℕ → Option R
slot_at slots number = slice_index_or slots number None

-- what stands in a slot, if there is one
abbrev pub thing_in : {R : Type 0} → Option (Option R) → Option R
thing_in None = None
thing_in (Some slot) = slot

-- whether a thing that passes the test stands in the slot
abbrev pub stands_and : {R : Type 0} → (R → Bool) → Option R → Bool
stands_and test None = false
stands_and test (Some thing) = test thing

-- whether a thing with this name stands in the slot
abbrev pub has_name : {R : Type 0} → (R → List ℕ) → List ℕ → Option R → Bool
has_name name_of name None = false
has_name name_of name (Some thing) = bytes_eq name (name_of thing)

-- the number of the thing that has the name
unfoldable pub number_named : {R : Type 0} → (R → List ℕ) → List (Option R) → List ℕ → Option ℕ
number_named name_of slots name = position_from (has_name name_of name) 0 slots
