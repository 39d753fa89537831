-- Lists that are made of another, one element after the other.
use Rattle.std.proofs.Common.{◌≡◌, List, [], ◌∷◌, ◌++◌, map, ap, ◌∙◌}
use Rattle.std.proofs.lemmas.List.{map-append}

-- one element more
pub mapped_more : {A B : Type 0} (f : A → B) (xs : List A) (x : A) (ys : List A) (zs : List B) (z : B) → ys ≡ xs ++ x ∷ [] → map f xs ≡ zs → f x ≡ z → map f ys ≡ zs ++ z ∷ []
mapped_more f xs x ys zs z pushed before same = ap (map f) pushed ∙ map-append f xs (x ∷ []) ∙ ap (λ l. l ++ f x ∷ []) before ∙ ap (λ y. zs ++ y ∷ []) same
