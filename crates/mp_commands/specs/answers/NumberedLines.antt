-- Lines that are numbered.
use Rattle.std.specs.Prelude.{◌+◌, ◌∷◌, ◌++◌}
use Rattle.mp_commands.specs.answers.Names.{ℕ, List, []}

-- a line for each thing, counted from this number
abbrev pub lines_from : {X : Type 0} → (ℕ → X → List ℕ) → ℕ → List X → List ℕ
lines_from line j [] = []
lines_from line j (x ∷ xs) = line j x ++ lines_from line (j + 1) xs
