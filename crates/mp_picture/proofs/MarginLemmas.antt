-- The longest of some names.
use Rattle.std.proofs.Common.{◌≡◌, ℕ, ◌+◌, ◌<◌, List, [], ◌∷◌, ◌++◌, length, get_or, map, max, take, refl, ap, ◌∙◌, arith}
use Rattle.std.proofs.lemmas.List.{map_more}
use Rattle.mp_picture.specs.Diagrams.{longest}

longest-append : (texts : List (List ℕ)) (text : List ℕ) → longest (texts ++ text ∷ []) ≡ max (length text) (longest texts)
longest-append [] text = refl
longest-append (x ∷ texts) text = ap (λ k. max (length x) k) (longest-append texts text) ∙ omega arith

-- with one name more
pub longest_more : {X : Type 0} (name : X → List ℕ) (xs : List X) (i : ℕ) (d : X) → i < length xs
    → longest (map name (take (i + 1) xs)) ≡ max (length (name (get_or xs i d))) (longest (map name (take i xs)))
longest_more name xs i d within = ap longest (map_more name xs i d within) ∙ longest-append (map name (take i xs)) (name (get_or xs i d))
