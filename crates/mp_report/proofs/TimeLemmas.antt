-- What is told over a run of times.
use Rattle.mp_report.proofs.Names.{◌≡◌, ◌+◌, ◌<◌, ◌≤◌, ◌∷◌, ◌++◌, ℕ, List, [], flat_map, zero, suc, refl, append-nil, append_assoc, arith, range_with_len}
use Rattle.std.proofs.lemmas.Grind.{flat_map-append}
use Rattle.std.proofs.lemmas.List.{map-append}

pub times_more : (a n : ℕ) → range_with_len a (n + 1) ≡ range_with_len a n ++ (a + n) ∷ []
times_more a zero = grind arith
times_more a (suc n) = grind (arith, (times_more (a + 1) n))

module _ {A X : Type 0} (told : A → List X) where
  pub told_none : ((t : A) → told t ≡ []) → (ts : List A) → flat_map told ts ≡ []
  told_none none [] = refl
  told_none none (t ∷ ts) = grind (arith, (told_none none ts))

  pub told_same : (other : A → List X) → ((t : A) → told t ≡ other t) → (ts : List A) → flat_map told ts ≡ flat_map other ts
  told_same other same ts = λ i. flat_map (λ t. same t i) ts

module _ {X : Type 0} (told : ℕ → List X) where
  -- one more time
  pub told_more : (a n t : ℕ) → a + n ≡ t → flat_map told (range_with_len a (n + 1)) ≡ flat_map told (range_with_len a n) ++ told t
  told_more a n t is = grind (arith, times_more, flat_map-append, append-nil)

  -- times at which nothing is told
  pub told_quiet : (a n j : ℕ) → ((t : ℕ) → a + n ≤ t → t < a + n + j → told t ≡ []) → flat_map told (range_with_len a (n + j)) ≡ flat_map told (range_with_len a n)
  told_quiet a n zero quiet = grind arith
  told_quiet a n (suc j) quiet =
      grind (arith, append-nil, (told_more a (n + j) (a + n + j) (omega arith)), (quiet (a + n + j) (omega arith) (omega arith)), (told_quiet a n j (λ t low high. quiet t low (omega (arith, high)))))

  -- the same where they tell the same from a time on
  pub told_same_from : (other : ℕ → List X) (a n : ℕ) → ((t : ℕ) → a ≤ t → t < a + n → told t ≡ other t) → flat_map told (range_with_len a n) ≡ flat_map other (range_with_len a n)
  told_same_from other a zero same = refl
  told_same_from other a (suc n) same = grind (arith, (told_same_from other (a + 1) n (λ t low high. same t (omega (arith, low)) (omega (arith, high)))))

pub ruleset places_steps = (times_more, map-append, append_assoc)
