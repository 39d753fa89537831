-- The union of all closed sets is the greatest one.
use Rattle.std.specs.Prelude.{◌≡◌, ℕ, ◌<◌, Bool, true, List}
use Rattle.mp_holding.specs.sets.ClosedSets.{is_in, is_closed, in_closed_set}

-- what a set has, another one has too
abbrev pub IsWithin : (ℕ → Bool) → (ℕ → Bool) → Type 0
IsWithin set other = (k : ℕ) → set k ≡ true → other k ≡ true

-- a greater set keeps what a lesser one keeps
abbrev pub KeepsMore : ((ℕ → Bool) → ℕ → Bool) → Type 0
KeepsMore keeps = (set other : ℕ → Bool) → IsWithin set other → IsWithin (keeps set) (keeps other)

-- it keeps each of its members
abbrev pub UnionIsClosed : Type 0
UnionIsClosed = (keeps : (ℕ → Bool) → ℕ → Bool) (count : ℕ) → KeepsMore keeps → IsWithin (in_closed_set keeps count) (keeps (in_closed_set keeps count))

-- each closed set of numbers below the count is within it
abbrev pub HasClosedSets : Type 0
HasClosedSets =
    (keeps : (ℕ → Bool) → ℕ → Bool) (count : ℕ) → KeepsMore keeps → (set : List ℕ) → ((k : ℕ) → is_in set k ≡ true → k < count) → is_closed keeps set ≡ true
    → IsWithin (is_in set) (in_closed_set keeps count)
