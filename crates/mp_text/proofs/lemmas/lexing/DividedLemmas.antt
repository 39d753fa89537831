-- Where lists of bytes and words are divided.
use Rattle.mp_text.proofs.lemmas.lexing.Names.{◌≡◌, ◌+◌, ◌-◌, ◌<◌, ◌≤◌, ◌∷◌, ◌++◌, ℕ, Bool, true, false, not, List, [], length, take, drop, get_or, All, Some, position, refl, ap, ◌∙◌, arith, length-append, list_all, position_or_len, before_first, after_first, before_last, after_last, suffix_len, nat_tests, All-head, All-tail, suffix_len_is, position_or_len_is, take-length, drop_all, AllPass-from_list_all, take-append_seam, drop-append-add, get_or-append_seam, get_or-append_right}

module _ {A : Type 0} (p : A → Bool) (m : A) (ys : List A) (found : p m ≡ true) where
  pub first_at : (xs : List A) → All (λ x. p x ≡ false) xs → position_or_len p (xs ++ m ∷ ys) ≡ length xs
  first_at [] all = grind (arith, nat_tests)
  first_at (x ∷ xs) all = grind (arith, nat_tests, All-head, All-tail, (first_at xs (All-tail (λ x. p x ≡ false) x xs all)))

  pub before_first-append : (xs : List A) → All (λ x. p x ≡ false) xs → before_first p (xs ++ m ∷ ys) ≡ xs
  before_first-append xs all = ap (λ n. take n (xs ++ m ∷ ys)) (first_at xs all) ∙ take-append_seam xs (m ∷ ys)

  pub after_first-append : (xs : List A) → All (λ x. p x ≡ false) xs → after_first p (xs ++ m ∷ ys) ≡ ys
  after_first-append xs all = ap (λ n. drop (n + 1) (xs ++ m ∷ ys)) (first_at xs all) ∙ drop-append-add xs (m ∷ ys) 1

  pub position-append : (xs : List A) → All (λ x. p x ≡ false) xs → position p (xs ++ m ∷ ys) ≡ Some (length xs)
  position-append xs all = grind (arith, first_at, length-append, nat_tests)

-- where nothing passes there is no first
module _ {A : Type 0} (p : A → Bool) where
  pub first_none : (xs : List A) → All (λ x. p x ≡ false) xs → position_or_len p xs ≡ length xs
  first_none [] none = refl
  first_none (x ∷ xs) none = position_or_len_is p (x ∷ xs) (length (x ∷ xs)) x (omega arith) (λ k within. none k x within) (λ over. absurd (omega (arith, over)))

  pub before_first-none : (xs : List A) → All (λ x. p x ≡ false) xs → before_first p xs ≡ xs
  before_first-none xs none = ap (λ n. take n xs) (first_none xs none) ∙ take-length xs

  pub after_first-none : (xs : List A) → All (λ x. p x ≡ false) xs → after_first p xs ≡ []
  after_first-none xs none = ap (λ n. drop (n + 1) xs) (first_none xs none) ∙ drop_all (length xs + 1) xs (omega arith)

-- bytes that do not pass, behind one that does
module _ (p : ℕ → Bool) (m : ℕ) (ys : List ℕ) (found : p m ≡ true) (none : list_all (λ y. not (p y)) ys ≡ true) (xs : List ℕ) where
  after_mark : (k : ℕ) → length xs + 1 ≤ k → k < length (xs ++ m ∷ ys) → not (p (get_or (xs ++ m ∷ ys) k 0)) ≡ true
  after_mark k from within = grind (arith, nat_tests, length-append, get_or-append_right, AllPass-from_list_all)

  behind_last : suffix_len (λ y. not (p y)) (xs ++ m ∷ ys) ≡ length ys
  behind_last =
      let same : length xs + 1 - 1 ≡ length xs = omega arith in
      let at = ap (λ j. not (p (get_or (xs ++ m ∷ ys) j 0))) same ∙ ap (λ y. not (p y)) (get_or-append_seam xs m ys 0) ∙ ap not found in
      grind (arith, nat_tests, length-append, after_mark, at, suffix_len_is)

  pub before_last-append : before_last p (xs ++ m ∷ ys) ≡ xs
  before_last-append =
      let at : length (xs ++ m ∷ ys) - suffix_len (λ y. not (p y)) (xs ++ m ∷ ys) - 1 ≡ length xs = omega (arith, length-append xs (m ∷ ys), behind_last) in
      ap (λ n. take n (xs ++ m ∷ ys)) at ∙ take-append_seam xs (m ∷ ys)

  pub after_last-append : after_last p (xs ++ m ∷ ys) ≡ ys
  after_last-append = grind (arith, length-append, behind_last, (drop-append-add xs (m ∷ ys) 1))
