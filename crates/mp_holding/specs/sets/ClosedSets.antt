-- Sets that keep their members, and what is in one of them.
use Rattle.std.specs.Prelude.{ℕ, Bool, ◌==◌, ◌&&◌, List, [], ◌∷◌, ◌++◌, map}
use Rattle.std.specs.List.{list_all, list_any, range_with_len}

abbrev pub is_in : List ℕ → ℕ → Bool
is_in set k = list_any (λ j. j == k) set

-- all sets of some numbers
abbrev pub subsets : List ℕ → List (List ℕ)
subsets [] = [] ∷ []
subsets (k ∷ ks) = subsets ks ++ map (λ set. k ∷ set) (subsets ks)

-- a set keeps each of its members, where `keeps` says which numbers a set keeps
abbrev pub is_closed : ((ℕ → Bool) → ℕ → Bool) → List ℕ → Bool
is_closed keeps set = list_all (keeps (is_in set)) set

-- the union of all closed sets of numbers below a count
unfoldable pub in_closed_set : ((ℕ → Bool) → ℕ → Bool) → ℕ → ℕ → Bool
in_closed_set keeps count k = list_any (λ set. is_closed keeps set && is_in set k) (subsets (range_with_len 0 count))
