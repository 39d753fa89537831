-- A list that is sorted by time, time by time.
use Rattle.std.proofs.Common.{◌≡◌, ℕ, ◌+◌, ◌<◌, ◌≤◌, ◌==◌, ◌&&◌, Bool, not, cond, nat_le, nat_lt, List, [], ◌∷◌, ◌++◌, All, filter, flat_map, zero, suc, refl, ap, sym, ◌∙◌, inl, inr, arith, append-nil}
use Rattle.std.specs.List.{range_with_len}
use Rattle.std.specs.List.Sorted.{IsNonDecreasingBy, IsStableByKey}
use Rattle.std.specs.Ordering.{nat_cmp, is_lt}
use Rattle.std.proofs.lemmas.Bool.{cases_lt, cases_eq}
use Rattle.std.proofs.lemmas.Bool.Decides.{nat_tests}
use Rattle.std.proofs.lemmas.List.Elements.{filter-append, filter_agree}

pub filter_flat_map : {X Y : Type 0} (p : Y → Bool) (f : X → List Y) (xs : List X) → filter p (flat_map f xs) ≡ flat_map (λ x. filter p (f x)) xs
filter_flat_map p f [] = refl
filter_flat_map p f (x ∷ xs) = grind (arith, nat_tests, filter-append, (filter_flat_map p f xs))

pub one_time : {A : Type 0} (f : ℕ → List A) (t a m : ℕ) → cond (a == t) (f a) [] ++ cond (nat_le (a + 1) t && nat_lt t (a + 1 + m)) (f t) [] ≡ cond (nat_le a t && nat_lt t (a + suc m)) (f t) []
one_time f t a m = grind (arith, nat_tests, cases_eq, append-nil)

tie_is : (t u : ℕ) → not (is_lt (nat_cmp t u)) && not (is_lt (nat_cmp u t)) ≡ (u == t)
tie_is t u = grind (arith, is_lt, nat_tests)

module _ {A : Type 0} (time : A → ℕ) where
  abbrev pub is_at : ℕ → A → Bool
  is_at t x = time x == t

  -- no time is below the one before it
  abbrev Rising : ℕ → List A → Type 0
  Rising a [] = Unit {0}
  Rising a (x ∷ xs) = (a ≤ time x) × Rising (time x) xs

  rising_from : (a : ℕ) (xs : List A) → IsNonDecreasingBy time xs → All (λ x. a ≤ time x) xs → Rising a xs
  rising_from a [] up low = tt
  rising_from a (x ∷ xs) up low =
      (low 0 x (omega arith), rising_from (time x) xs (λ i j d le within. up (suc i) (suc j) d (omega (arith, le)) (omega (arith, within))) (λ k d within. up 0 (suc k) d (omega arith) (omega (arith, within))))

  none_at : (a b : ℕ) (xs : List A) → a < b → Rising b xs → filter (is_at a) xs ≡ []
  none_at a b [] lt up = refl
  none_at a b (x ∷ xs) lt up = grind (arith, nat_tests, (none_at a (time x) xs (omega (arith, lt, up.0)) up.1))

  -- those of a time come before those of later times
  record Split (a : ℕ) (xs : List A) : Type 0 where
    later : List A
    whole : xs ≡ filter (is_at a) xs ++ later
    rises : Rising (a + 1) later
    same : (t : ℕ) → a < t → filter (is_at t) later ≡ filter (is_at t) xs

  split : (a : ℕ) (xs : List A) → Rising a xs → Split a xs
  split a [] up = record { later = []; whole = refl; rises = tt; same = λ t above. refl }
  split a (x ∷ xs) up = elim (cases_lt a (time x)) [
    | inl sooner ↦ record { later = x ∷ xs; whole = ap (λ l. l ++ x ∷ xs) (sym (none_at a (a + 1) (x ∷ xs) (omega arith) (omega (arith, sooner), up.1))); rises = (omega (arith, sooner), up.1); same = λ t above. refl }
    | inr here ↦ let rest = split a xs (grind (arith, nat_tests, here, up)) in
        record { later = rest.later; whole = grind (arith, nat_tests, here, up, rest.whole); rises = rest.rises; same = λ t above. grind (arith, nat_tests, here, rest.same) }
  ]

  by_time : (told : ℕ → List A) (a k : ℕ) (xs : List A) → Rising a xs → ((t : ℕ) → a ≤ t → t < a + k → filter (is_at t) xs ≡ told t)
      → ((t : ℕ) → a + k ≤ t → filter (is_at t) xs ≡ []) → xs ≡ flat_map told (range_with_len a k)
  by_time told a zero [] up same none = refl
  by_time told a zero (x ∷ xs) up same none = grind (arith, nat_tests, (none (time x) (omega (arith, up.0))))
  by_time told a (suc k) xs up same none =
      let rest = split a xs up in
      let more = by_time told (a + 1) k rest.later rest.rises (λ t low high. rest.same t (omega (arith, low)) ∙ same t (omega (arith, low)) (omega (arith, high))) (λ t high. rest.same t (omega (arith, high)) ∙ none t (omega (arith, high))) in
      rest.whole ∙ ap (λ l. l ++ rest.later) (same a (omega arith) (omega arith)) ∙ ap (λ l. told a ++ l) more

  -- a stable sort by time leaves those of each time as they were
  pub same_at : (xs ys : List A) → IsStableByKey time nat_cmp xs ys → (k : A) → filter (is_at (time k)) ys ≡ filter (is_at (time k)) xs
  same_at xs ys stable k =
      let tied : A → Bool = (λ y. not (is_lt (nat_cmp (time k) (time y))) && not (is_lt (nat_cmp (time y) (time k)))) in
      sym (filter_agree tied (is_at (time k)) (λ y. tie_is (time k) (time y)) ys) ∙ stable k ∙ filter_agree tied (is_at (time k)) (λ y. tie_is (time k) (time y)) xs

  -- all of them, if they are of times from 1 on
  pub by_times : (told : ℕ → List A) (m : ℕ) (ys : List A) → IsNonDecreasingBy time ys → ((t : ℕ) → filter (is_at t) ys ≡ cond (nat_le 1 t && nat_lt t (1 + m)) (told t) []) → ys ≡ flat_map told (range_with_len 1 m)
  by_times told m ys rises at =
      let first = split 0 ys (rising_from 0 ys rises (λ k d within. omega arith)) in
      let none : filter (is_at 0) ys ≡ [] = at 0 in
      first.whole ∙ ap (λ l. l ++ first.later) none
      ∙ by_time told 1 m first.later first.rises (λ t low high. first.same t low ∙ at t ∙ (grind (arith, nat_tests, low, high)))
      (λ t high. first.same t (omega (arith, high)) ∙ at t ∙ (grind (arith, nat_tests, high)))
