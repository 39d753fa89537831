-- Ways of which twice as many numbers are known step by step.
use Rattle.std.specs.Prelude.{◌≡◌, ℕ, ◌≤◌, List, length, slice_index_or, zero, suc}
use Rattle.mp_check.specs.Ways.{way, least}
use Rattle.mp_check.specs.declared.rounds.Ways.{Ways}

-- the number behind a way of so many
abbrev pub beyond : (ℕ → ℕ) → ℕ → ℕ → ℕ
beyond next zero k = k
beyond next (suc count) k = beyond next count (next k)

-- the number at a place, and one that stands for none where there is no such place
abbrev pub number_in : ℕ → List ℕ → ℕ → ℕ
number_in none numbers k = slice_index_or numbers k none

-- for each number below the one that stands for none: what is behind its way of so many, and the least on it
pub record AreWays (next : ℕ → ℕ) (none count : ℕ) (ways : Ways) : Type 0 where
  pub beyond_is : (k : ℕ) → k ≤ none → number_in none ways.beyond.items k ≡ beyond next count k
  pub least_is : (k : ℕ) → k ≤ none → number_in none ways.least.items k ≡ least none (way next count k)

-- the next number, where there are so many
abbrev pub next_in : List ℕ → ℕ → ℕ
next_in next k = number_in (length next) next k
