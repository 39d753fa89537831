-- Round numbers, of which columns have as many units.
use Rattle.std.specs.Prelude.{ℕ, ◌-◌, ◌*◌, ◌%◌, ◌==◌, nat_le, Bool, List, [], ◌∷◌, unwrap_or}
use Rattle.std.specs.List.{find, list_any}

-- 1, 2 and 5 times a power of ten, up to beyond the longest horizon
unfoldable pub round_numbers : List ℕ
round_numbers =
    1 ∷ 2 ∷ 5 ∷ 10 ∷ 20 ∷ 50 ∷ 100 ∷ 200 ∷ 500 ∷ 1000 ∷ 2000 ∷ 5000 ∷ 10000 ∷ 20000 ∷ 50000 ∷ 100000 ∷ 200000 ∷ 500000
    ∷ 1000000 ∷ 2000000 ∷ 5000000 ∷ 10000000 ∷ 20000000 ∷ 50000000 ∷ 100000000 ∷ 200000000 ∷ 500000000 ∷ 1000000000 ∷ 2000000000 ∷ []

abbrev pub is_round : ℕ → Bool
is_round k = list_any (λ r. r == k) round_numbers

-- the multiple of a number that is at a time or before it
abbrev pub rounded_down : ℕ → ℕ → ℕ
rounded_down k time = time - time % k

-- so many columns of k units, from a multiple of k on, reach over a range
abbrev pub are_enough : ℕ → ℕ → ℕ → ℕ → Bool
are_enough from to most k = nat_le (to - rounded_down k from) (k * most)

-- the least round number of which so many columns are enough
abbrev pub units_of : ℕ → ℕ → ℕ → ℕ
units_of from to most = unwrap_or (find (are_enough from to most) round_numbers) 2000000000
