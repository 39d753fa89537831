-- Lists that are made element by element.
use Rattle.std.proofs.Common.{◌≡◌, List, [], ◌∷◌, ◌++◌, map, ap, sym, ◌∙◌}
use Rattle.std.proofs.lemmas.List.{map-append}

-- one element more
pub mapped_more : {A B : Type 0} (f : A → B) (xs : List A) (x : A) (ys zs : List B) (y : B) → zs ≡ ys ++ y ∷ [] → ys ≡ map f xs → y ≡ f x → zs ≡ map f (xs ++ x ∷ [])
mapped_more f xs x ys zs y pushed before same = pushed ∙ ap (λ l. l ++ y ∷ []) before ∙ ap (λ z. map f xs ++ z ∷ []) same ∙ sym (map-append f xs (x ∷ []))
