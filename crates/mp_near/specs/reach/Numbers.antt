-- Wires or modules that are picked, numbered anew.
use Rattle.std.specs.Prelude.{◌≡◌, ℕ, ◌+◌, ◌<◌, ◌≤◌, Bool, true, List, length, slice_index_or}
use Rattle.mp_partition.specs.runs.Marks.{is_marked}

-- the number at a place; where there is none, a number above far
abbrev pub number_at : ℕ → List ℕ → ℕ → ℕ
number_at far numbers k = slice_index_or numbers k (far + k + 1)

-- the place of a number that is picked
abbrev pub place_at : List ℕ → ℕ → ℕ
place_at places x = slice_index_or places x x

-- of the numbers below a count those that are marked are listed, each with its place
pub record AreNumbered (marks : List Bool) (count : ℕ) (numbers places : List ℕ) : Type 0 where
  pub size : length places ≡ count
  pub few : length numbers ≤ count
  pub below : (k d : ℕ) → k < length numbers → slice_index_or numbers k d < count
  pub marked : (k d : ℕ) → k < length numbers → is_marked marks (slice_index_or numbers k d) ≡ true
  pub placed : (k d : ℕ) → k < length numbers → place_at places (slice_index_or numbers k d) ≡ k
  pub within : (x : ℕ) → x < count → is_marked marks x ≡ true → place_at places x < length numbers
  pub found : (x d : ℕ) → x < count → is_marked marks x ≡ true → slice_index_or numbers (place_at places x) d ≡ x
