-- A table whose names lead to numbers, also those of things that went.
use Rattle.std.specs.Prelude.{◌≡◌, ◌≤◌, ◌^◌, ℕ, true, cond, List, Option, None, Some, length}
use Rattle.mp_netlist.specs.Slots.{slot_at, has_name}

-- the number that a look-up of a name found, where a thing of that name stands in its slot
abbrev pub named_number : {R : Type 0} → (R → List ℕ) → List (Option R) → List ℕ → Option ℕ → Option ℕ
named_number name_of slots name None = None
named_number name_of slots name (Some number) = cond (has_name name_of name (slot_at slots number)) (Some number) None

-- what stands is looked up by its name: so with its slot a look-up finds exactly the thing of that name, and no two things that stand have one name. Each
-- number has 32 bits
pub record IsTable {R : Type 0} (name_of : R → List ℕ) (slots : List (Option R)) (look : List ℕ → Option ℕ) : Type 0 where
  pub few : length slots ≤ 2 ^ 32
  pub finds : (name : List ℕ) (number : ℕ) → has_name name_of name (slot_at slots number) ≡ true → look name ≡ Some number

-- what stands in a slot has the name of what stood there
abbrev pub KeepsNames : {R : Type 0} → (R → List ℕ) → Option R → Option R → Type 0
KeepsNames name_of old new = (name : List ℕ) → has_name name_of name new ≡ true → has_name name_of name old ≡ true
