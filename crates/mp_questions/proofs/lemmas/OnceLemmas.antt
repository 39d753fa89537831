-- The first of those that are the same, one after the other.
use Rattle.std.proofs.Common.{◌≡◌, ℕ, ◌+◌, ◌<◌, Bool, true, false, not, ◌||◌, cond, List, [], ◌∷◌, ◌++◌, append-nil, append_assoc, length, get_or, take, drop, take-append-drop, filter, flat_map, Result, Ok, Err, refl, ap, sym, subst, ◌∙◌}
use Rattle.std.specs.List.{list_any}
use Rattle.std.proofs.lemmas.List.{take_more}
use Rattle.std.proofs.lemmas.List.Concat.{flat_map-append}
use Rattle.std.proofs.lemmas.List.Elements.{filter-append}
use Rattle.mp_streams.specs.Outgoing.{Outgoing, Puts}
use Rattle.mp_streams.proofs.OutLemmas.{puts_sooner, puts_then}
use Rattle.mp_questions.specs.Once.{firsts}

module _ {X : Type 0} (same : X → X → Bool) where
  abbrev others : X → X → Bool
  others x y = not (same x y)

  -- one of a list is the same as a further one
  abbrev pub is_known : List X → X → Bool
  is_known xs y = list_any (λ x. same x y) xs

  kept : (x y : X) (a b : Bool) → same x y ≡ a → filter (others x) (cond b [] (y ∷ [])) ≡ cond (a || b) [] (y ∷ [])
  kept x y true true is = refl
  kept x y true false is = ap (λ (s : Bool). cond (not s) (y ∷ []) []) is
  kept x y false true is = refl
  kept x y false false is = ap (λ (s : Bool). cond (not s) (y ∷ []) []) is

  -- one more
  pub firsts_more : (xs : List X) (y : X) → firsts same (xs ++ y ∷ []) ≡ firsts same xs ++ cond (is_known xs y) [] (y ∷ [])
  firsts_more [] y = refl
  firsts_more (x ∷ xs) y =
      ap (λ (l : List X). x ∷ filter (others x) l) (firsts_more xs y)
      ∙ ap (λ (l : List X). x ∷ l) (filter-append (others x) (firsts same xs) (cond (is_known xs y) [] (y ∷ [])))
      ∙ ap (λ (l : List X). x ∷ (filter (others x) (firsts same xs) ++ l)) (kept x y (same x y) (is_known xs y) refl)

  -- those of a longer list
  record Longer (xs ys : List X) : Type 0 where
    later : List X
    is : firsts same (xs ++ ys) ≡ firsts same xs ++ later

  longer : (xs ys : List X) → Longer xs ys
  longer [] ys = record { later = firsts same ys; is = refl }
  longer (x ∷ xs) ys =
      let rest = longer xs ys in
      record {
        later = filter (others x) rest.later;
        is = ap (λ (l : List X). x ∷ filter (others x) l) rest.is ∙ ap (λ (l : List X). x ∷ l) (filter-append (others x) (firsts same xs) rest.later);
      }

  module _ (t : X → List ℕ) (xs : List X) (i : ℕ) (d : X) (within : i < length xs) where
    piece : (b : Bool) (y : X) → flat_map t (cond b [] (y ∷ [])) ≡ cond b [] (t y)
    piece true y = refl
    piece false y = append-nil (t y)

    abbrev line : List ℕ
    line = cond (is_known (take i xs) (get_or xs i d)) [] (t (get_or xs i d))

    -- the text of one more
    first_text : flat_map t (firsts same (take (i + 1) xs)) ≡ flat_map t (firsts same (take i xs)) ++ line
    first_text =
        let y = get_or xs i d in
        ap (λ (l : List X). flat_map t (firsts same l)) (take_more xs i d within)
        ∙ ap (flat_map t) (firsts_more (take i xs) y)
        ∙ flat_map-append t (firsts same (take i xs)) (cond (is_known (take i xs) y) [] (y ∷ []))
        ∙ ap (λ (l : List ℕ). flat_map t (firsts same (take i xs)) ++ l) (piece (is_known (take i xs) y) y)

    -- and of all
    more : Longer (take (i + 1) xs) (drop (i + 1) xs)
    more = longer (take (i + 1) xs) (drop (i + 1) xs)

    all_text : flat_map t (firsts same xs) ≡ flat_map t (firsts same (take i xs)) ++ (line ++ flat_map t more.later)
    all_text =
        ap (λ (l : List X). flat_map t (firsts same l)) (sym (take-append-drop (i + 1) xs)) ∙ ap (flat_map t) more.is
        ∙ flat_map-append t (firsts same (take (i + 1) xs)) more.later
        ∙ ap (λ (l : List ℕ). l ++ flat_map t more.later) first_text
        ∙ append_assoc (flat_map t (firsts same (take i xs))) line (flat_map t more.later)

    module _ {S T E F : Type 0} {f : F → Bool} {g : E → Bool} {done : T} {a b c : Outgoing S} where
      -- the line of one more was written
      pub once_next : {U : Type 0} {r : Result U E} → Puts f (Ok done) a b (flat_map t (firsts same (take i xs))) → Puts g r b c (cond (is_known (take i xs) (get_or xs i d)) [] (t (get_or xs i d)))
          → Puts g r a c (flat_map t (firsts same (take (i + 1) xs)))
      once_next {U = U} {r = r} first second = subst (Puts g r a c) (sym first_text) (puts_then first second)

      -- it failed
      pub once_stopped : {U : Type 0} {error : E} → Puts f (Ok done) a b (flat_map t (firsts same (take i xs))) → Puts {T = U} g (Err error) b c (cond (is_known (take i xs) (get_or xs i d)) [] (t (get_or xs i d)))
          → Puts {T = U} g (Err error) a c (flat_map t (firsts same xs))
      once_stopped {U = U} {error = error} first second =
          subst (Puts {T = U} g (Err error) a c) (sym all_text) (puts_then first (puts_sooner (flat_map t more.later) second))
