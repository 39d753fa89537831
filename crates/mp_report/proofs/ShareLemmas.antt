-- Lists that several threads make.
use Rattle.mp_report.proofs.Names.{◌≡◌, ◌∷◌, ◌++◌, List, [], map, flat_map, Ok, Err, refl, sym, ap, subst, ◌∙◌, AllZip, IfOk, MatchResult}
use Rattle.std.specs.declared.result.Result.{Result}

-- where each answer is there, what holds of it holds of what it has
all_there : {A B : Type 0} (E : Type 0) (P : A → B → Type 0) (xs : List A) (ys : List B) → AllZip (λ x (r : Result B E). IfOk r (P x)) xs (map Ok ys) → AllZip P xs ys
all_there E P [] [] h = tt
all_there E P (x ∷ xs) (y ∷ ys) h = (h.0, all_there E P xs ys h.1)
all_there E P xs ys h = absurd h

-- what holds of the answers holds of what is collected of them
pub collected : {A B C E F : Type 0} (P : A → B → Type 0) (items : C → List B) (lost : F → Type 0) (xs : List A) (rs : List (Result B E)) (r : Result C F)
    → AllZip (λ x a. IfOk a (P x)) xs rs → MatchResult r (λ c. (ys : List B) × (rs ≡ map Ok ys) × (items c ≡ ys)) lost → IfOk r (λ c. AllZip P xs (items c))
collected {E = E} P items lost xs rs (Ok c) each done =
    subst (AllZip P xs) (sym done.2) (all_there E P xs done.0 (subst (AllZip (λ x (a : Result _ E). IfOk a (P x)) xs) done.1 each))
collected P items lost xs rs (Err e) each done = tt

-- lists that are those of a function, side by side
pub joined_lists : {A B C : Type 0} (f : A → List B) (items : C → List B) (xs : List A) (ys : List C) → AllZip (λ x y. items y ≡ f x) xs ys → flat_map items ys ≡ flat_map f xs
joined_lists f items [] [] h = refl
joined_lists f items (x ∷ xs) (y ∷ ys) h = ap (λ l. l ++ flat_map items ys) h.0 ∙ ap (λ l. f x ++ l) (joined_lists f items xs ys h.1)
joined_lists f items xs ys h = absurd h
