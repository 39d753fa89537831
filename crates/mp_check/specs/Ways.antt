-- Ways from number to number, and those that come round.
use Rattle.std.specs.Prelude.{ℕ, Bool, ◌==◌, List, [], ◌∷◌, min, zero, suc}

-- a number, the next one, and so on: so many
abbrev pub way : (ℕ → ℕ) → ℕ → ℕ → List ℕ
way next zero k = []
way next (suc count) k = k ∷ way next count (next k)

-- the least of some numbers, and of one
abbrev pub least : ℕ → List ℕ → ℕ
least most [] = most
least most (k ∷ ks) = min k (least most ks)

-- a number is the least on the way behind it, of so many: so the way comes round to it
abbrev pub begins_round : (ℕ → ℕ) → ℕ → ℕ → Bool
begins_round next most k = least most (way next most (next k)) == k
