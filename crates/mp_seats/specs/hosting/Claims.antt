-- The places of a story that the lines at a desk's seats claim.
use Rattle.std.specs.Prelude.{◌≡◌, ◌⊎◌, ◌+◌, ◌<◌, ◌≤◌, ◌==◌, ℕ, List, [], ◌∷◌, count_by}
use Rattle.mp_seats.specs.Marks.{AreSigned}

-- how often the place is claimed, at all seats together
abbrev pub times_claimed : ℕ → List (List ℕ) → ℕ
times_claimed place [] = 0
times_claimed place (seat ∷ seats) = count_by (λ p. p == place) seat + times_claimed place seats

-- the places of each seat, numbered from this one on, have the seat's number as their author
abbrev pub AreAllSigned : List ℕ → ℕ → List (List ℕ) → Type 0
AreAllSigned authors number [] = Unit {0}
AreAllSigned authors number (seat ∷ seats) = AreSigned number authors seat × AreAllSigned authors (number + 1) seats

-- each place from the first number up to the second is claimed by one line of one seat, and no other place by any
pub record AreClaimed (from to : ℕ) (claims : List (List ℕ)) : Type 0 where
  pub once : (place : ℕ) → from ≤ place → place < to → times_claimed place claims ≡ 1
  pub none : (place : ℕ) → (place < from) ⊎ (to ≤ place) → times_claimed place claims ≡ 0
