-- What is the same, once.
use Rattle.std.specs.Prelude.{Bool, not, List, [], ◌∷◌, filter}

-- the first of those that are the same, in their order
abbrev pub firsts : {X : Type 0} → (X → X → Bool) → List X → List X
firsts same [] = []
firsts same (x ∷ others) = x ∷ filter (λ other. not (same x other)) (firsts same others)
