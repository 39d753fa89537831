-- The least round number that does.
use Rattle.std.proofs.Common.{◌≡◌, ℕ, ◌-◌, ◌*◌, ◌<◌, ◌≤◌, Bool, true, false, ◌&&◌, ◌||◌, ◌⊎◌, inl, inr, cond, eqb, leb, List, length, get_or, [], ◌∷◌, zero, suc, Some, unwrap_or, refl, ap, ◌∙◌, arith}
use Rattle.std.specs.List.{find, list_any, list_all}
use Rattle.std.proofs.lemmas.Bool.Decides.{nat_tests}
use Rattle.std.proofs.lemmas.List.Sums.{AllPass-from_list_all}
use Rattle.mp_picture.specs.RoundNumbers.{round_numbers, is_round, rounded_down, are_enough, units_of}

abbrev is : ℕ → ℕ → Bool
is k r = eqb r k

-- none is above a later one
abbrev grows : List ℕ → Bool
grows [] = true
grows (x ∷ xs) = list_all (leb x) xs && grows xs

same_at : (x k : ℕ) → eqb x k ≡ true → x ≡ k
same_at x k e = grind (arith, nat_tests)

all_above : (x k : ℕ) (xs : List ℕ) → list_all (leb x) xs ≡ true → list_any (is k) xs ≡ true → x ≤ k
all_above x k [] above has = absurd (cc)
all_above x k (y ∷ ys) above has = by (leb x y) refl (eqb y k) refl above has (all_above x k ys)
  where
    by : (b : Bool) → leb x y ≡ b → (d : Bool) → eqb y k ≡ d → (b && list_all (leb x) ys) ≡ true → (d || list_any (is k) ys) ≡ true
        → (list_all (leb x) ys ≡ true → list_any (is k) ys ≡ true → x ≤ k) → x ≤ k
    by true e true f above has later = grind (arith, nat_tests)
    by true e false f above has later = later above has
    by false e d f above has later = absurd (cc)

module _ (p : ℕ → Bool) (d k : ℕ) where
  -- the first that passes isn't above another that passes
  first_least : (xs : List ℕ) → grows xs ≡ true → list_any (is k) xs ≡ true → p k ≡ true → unwrap_or (find p xs) d ≤ k
  first_least [] up has passes = absurd (cc)
  first_least (x ∷ xs) up has passes = by (p x) refl (eqb x k) refl (list_all (leb x) xs) refl up has (λ (g : grows xs ≡ true) (h : list_any (is k) xs ≡ true). first_least xs g h passes)
    where
      by : (b : Bool) → p x ≡ b → (e : Bool) → eqb x k ≡ e → (a : Bool) → list_all (leb x) xs ≡ a
          → (a && grows xs) ≡ true → (e || list_any (is k) xs) ≡ true → (grows xs ≡ true → list_any (is k) xs ≡ true → unwrap_or (find p xs) d ≤ k)
          → unwrap_or (cond b (Some x) (find p xs)) d ≤ k
      by true q true r a s up has later = let same : x ≡ k = same_at x k r in omega arith
      by true q false r true s up has later = all_above x k xs s has
      by true q false r false s up has later = absurd (cc)
      by false q true r a s up has later = let same : x ≡ k = same_at x k r in absurd (cc)
      by false q false r true s up has later = later up has
      by false q false r false s up has later = absurd (cc)

  -- where one passes, so does the first
  first_passes : (xs : List ℕ) → list_any (is k) xs ≡ true → p k ≡ true → p (unwrap_or (find p xs) d) ≡ true
  first_passes [] has passes = absurd (cc)
  first_passes (x ∷ xs) has passes = by (p x) refl (eqb x k) refl has (λ (h : list_any (is k) xs ≡ true). first_passes xs h passes)
    where
      by : (b : Bool) → p x ≡ b → (e : Bool) → eqb x k ≡ e → (e || list_any (is k) xs) ≡ true → (list_any (is k) xs ≡ true → p (unwrap_or (find p xs) d) ≡ true)
          → p (unwrap_or (cond b (Some x) (find p xs)) d) ≡ true
      by true q e r has later = q
      by false q true r has later = let same : x ≡ k = same_at x k r in absurd (cc)
      by false q false r has later = later has

-- the first that passes is one of them
first_is : (p : ℕ → Bool) (d : ℕ) (xs : List ℕ) → (unwrap_or (find p xs) d ≡ d) ⊎ (list_any (is (unwrap_or (find p xs) d)) xs ≡ true)
first_is p d [] = inl refl
first_is p d (x ∷ xs) = by (p x) (first_is p d xs)
  where
    by : (b : Bool) → (unwrap_or (find p xs) d ≡ d) ⊎ (list_any (is (unwrap_or (find p xs) d)) xs ≡ true)
        → (unwrap_or (cond b (Some x) (find p xs)) d ≡ d) ⊎ ((is (unwrap_or (cond b (Some x) (find p xs)) d) x || list_any (is (unwrap_or (cond b (Some x) (find p xs)) d)) xs) ≡ true)
    by true later = inr (let same : eqb x x ≡ true = grind (arith, nat_tests) in rw same refl)
    by false (inl none) = inl none
    by false (inr one) = inr (either (is (unwrap_or (find p xs) d) x) one)
      where
        either : (b : Bool) {c : Bool} → c ≡ true → (b || c) ≡ true
        either true h = refl
        either false h = h

-- ---- round numbers

last_round : is_round 2000000000 ≡ true
unfolding round_numbers
last_round = refl

round_grows : grows round_numbers ≡ true
unfolding round_numbers
round_grows = refl

pub round_some : (k : ℕ) → is_round k ≡ true → 0 < k
unfolding round_numbers
round_some zero round = absurd (cc)
round_some (suc k) round = omega arith

all_some : list_all (leb 1) round_numbers ≡ true
unfolding round_numbers
all_some = refl

pub round_at : (i d : ℕ) → i < length round_numbers → 0 < get_or round_numbers i d
round_at i d within =
    let passes : leb 1 (get_or round_numbers i d) ≡ true = AllPass-from_list_all (leb 1) round_numbers all_some i d within in
    grind (arith, nat_tests)

module _ (from to most : ℕ) where
  pub units_round : is_round (units_of from to most) ≡ true
  units_round = elim (first_is (are_enough from to most) 2000000000 round_numbers) as (λ _. is_round (units_of from to most) ≡ true) [
    | inl last ↦ ap is_round last ∙ last_round
    | inr one ↦ one
  ]

  last_enough : to ≤ 1073741824 → 0 < most → are_enough from to most 2000000000 ≡ true
  last_enough low some =
      let le : to - rounded_down 2000000000 from ≤ 2000000000 * most = omega arith in
      grind (arith, nat_tests)

  pub units_enough : to ≤ 1073741824 → 0 < most → to - rounded_down (units_of from to most) from ≤ units_of from to most * most
  units_enough low some =
      let passes = first_passes (are_enough from to most) 2000000000 2000000000 round_numbers last_round (last_enough low some) in
      grind (arith, nat_tests)

  pub units_fewest : (k : ℕ) → is_round k ≡ true → to - rounded_down k from ≤ k * most → units_of from to most ≤ k
  units_fewest k round enough =
      let passes : are_enough from to most k ≡ true = grind (arith, nat_tests) in
      first_least (are_enough from to most) 2000000000 k round_numbers round_grows round passes
