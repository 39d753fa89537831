-- Lists of places, and how often a place is among them.
use Rattle.std.proofs.Common.{◌≡◌, ◌⊎◌, inl, inr, ◌+◌, ◌<◌, ◌≤◌, ◌==◌, ℕ, zero, suc, Bool, true, false, cond, List, [], ◌∷◌, ◌++◌, length, Some, slice_get, refl, ap, subst, ◌∙◌, arith}
use Rattle.std.specs.Prelude.{count_by}
use Rattle.std.proofs.lemmas.List.Sums.{sum_by-cons}
use Rattle.std.proofs.lemmas.Bool.Decides.{nat_tests}
use Rattle.mp_seats.specs.Marks.{AreSigned}
use Rattle.mp_seats.specs.hosting.Claims.{times_claimed, AreClaimed}

-- the places rise, from a number on and up to another
abbrev pub AreRising : ℕ → ℕ → List ℕ → Type 0
AreRising from to [] = from ≤ to
AreRising from to (k ∷ places) = (from ≤ k) × AreRising (k + 1) to places

pub rising_sooner : (sooner from to : ℕ) (places : List ℕ) → sooner ≤ from → AreRising from to places → AreRising sooner to places
rising_sooner sooner from to [] le rise = let h = rise in omega (arith, le, h)
rising_sooner sooner from to (k ∷ places) le rise = (let h = rise.0 in omega (arith, le, h), rise.1)

pub rising_later : (from to later : ℕ) (places : List ℕ) → to ≤ later → AreRising from to places → AreRising from later places
rising_later from to later [] le rise = let h = rise in omega (arith, le, h)
rising_later from to later (k ∷ places) le rise = (rise.0, rising_later (k + 1) to later places le rise.1)

pub rising_within : (from to : ℕ) (places : List ℕ) → AreRising from to places → from ≤ to
rising_within from to [] rise = rise
rising_within from to (k ∷ places) rise = let h = rising_within (k + 1) to places rise.1 in let low = rise.0 in omega (arith, h, low)

pub rising_append : (from middle to : ℕ) (xs ys : List ℕ) → AreRising from middle xs → AreRising middle to ys → AreRising from to (xs ++ ys)
rising_append from middle to [] ys first second = rising_sooner from middle to ys first second
rising_append from middle to (k ∷ xs) ys first second = (first.0, rising_append (k + 1) middle to xs ys first.1 second)

pub signed_append : (author : ℕ) (authors xs ys : List ℕ) → AreSigned author authors xs → AreSigned author authors ys → AreSigned author authors (xs ++ ys)
signed_append author authors [] ys first second = second
signed_append author authors (k ∷ xs) ys first second = (first.0, signed_append author authors xs ys first.1 second)

-- ---- how often a place is among them

abbrev pub times : ℕ → List ℕ → ℕ
times place places = count_by (λ p. p == place) places

abbrev pub one_if : Bool → ℕ
one_if b = cond b 1 0

times_cons : (place k : ℕ) (places : List ℕ) → times place (k ∷ places) ≡ one_if (k == place) + times place places
times_cons place k places = sum_by-cons (λ p. one_if (p == place)) k places

here : (place k : ℕ) → k ≡ place → one_if (k == place) ≡ one_if true
here place k same = by (k == place) refl
  where
    by : (b : Bool) → (k == place) ≡ b → one_if b ≡ one_if true
    by true is = refl
    by false is = absurd (grind (arith, nat_tests, same, is))

unlike : (place k : ℕ) → k ≡ place → (k < place) ⊎ (place < k) → ⊥
unlike place k same (inl below) = omega (arith, same, below)
unlike place k same (inr above) = omega (arith, same, above)

elsewhere : (place k : ℕ) → (k < place) ⊎ (place < k) → one_if (k == place) ≡ one_if false
elsewhere place k apart = by (k == place) refl
  where
    by : (b : Bool) → (k == place) ≡ b → one_if b ≡ one_if false
    by true is = absurd (unlike place k (grind (arith, nat_tests, is)) apart)
    by false is = refl

-- a place before those that rise is none of them
pub none_before : (place from to : ℕ) (places : List ℕ) → place < from → AreRising from to places → times place places ≡ 0
none_before place from to [] before rise = refl
none_before place from to (k ∷ places) before rise =
    let low = rise.0 in
    let rest = none_before place (k + 1) to places (omega (arith, before, low)) rise.1 in
    let first = elsewhere place k (inr (omega (arith, before, low))) in
    omega (arith, times_cons place k places, first, rest)

-- nor is one behind them
pub none_behind : (place from to : ℕ) (places : List ℕ) → to ≤ place → AreRising from to places → times place places ≡ 0
none_behind place from to [] behind rise = refl
none_behind place from to (k ∷ places) behind rise =
    let up = rising_within (k + 1) to places rise.1 in
    let rest = none_behind place (k + 1) to places behind rise.1 in
    let first = elsewhere place k (inl (omega (arith, behind, up))) in
    omega (arith, times_cons place k places, first, rest)

-- each place is below a number
abbrev pub AreBelow : ℕ → List ℕ → Type 0
AreBelow n [] = Unit {0}
AreBelow n (k ∷ places) = (k < n) × AreBelow n places

pub below_more : (n more : ℕ) (places : List ℕ) → n ≤ more → AreBelow n places → AreBelow more places
below_more n more [] le below = tt
below_more n more (k ∷ places) le below = let first = below.0 in (omega (arith, first, le), below_more n more places le below.1)

pub below_append : (n : ℕ) (xs ys : List ℕ) → AreBelow n xs → AreBelow n ys → AreBelow n (xs ++ ys)
below_append n [] ys first second = second
below_append n (k ∷ xs) ys first second = (first.0, below_append n xs ys first.1 second)

-- a place that isn't below it is none of them
pub times_below : (place n : ℕ) (places : List ℕ) → AreBelow n places → n ≤ place → times place places ≡ 0
times_below place n [] below le = refl
times_below place n (k ∷ places) below le =
    let low = below.0 in
    let rest = times_below place n places below.1 le in
    let first = elsewhere place k (inl (omega (arith, low, le))) in
    omega (arith, times_cons place k places, first, rest)

-- none of them comes twice
pub once_at_most : (place from to : ℕ) (places : List ℕ) → AreRising from to places → times place places ≤ 1
once_at_most place from to [] rise = omega arith
once_at_most place from to (k ∷ places) rise = by (k == place) refl (once_at_most place (k + 1) to places rise.1)
  where
    by : (b : Bool) → (k == place) ≡ b → times place places ≤ 1 → times place (k ∷ places) ≤ 1
    by true is others =
        let same : k ≡ place = grind (arith, nat_tests, is) in
        let rest = none_before place (k + 1) to places (omega (arith, same)) rise.1 in
        let first = here place k same in
        omega (arith, times_cons place k places, first, rest)
    by false is others = let first = ap one_if is in omega (arith, times_cons place k places, first, others)

-- one that is among them has their author
pub author_of : (place author : ℕ) (authors places : List ℕ) → AreSigned author authors places → 0 < times place places → slice_get authors place ≡ Some author
author_of place author authors [] signed some = absurd (omega (arith, some))
author_of place author authors (k ∷ places) signed some = by (k == place) refl (author_of place author authors places signed.1)
  where
    by : (b : Bool) → (k == place) ≡ b → (0 < times place places → slice_get authors place ≡ Some author) → slice_get authors place ≡ Some author
    by true is others = let same : k ≡ place = grind (arith, nat_tests, is) in subst (λ p. slice_get authors p ≡ Some author) same signed.0
    by false is others = let first = ap one_if is in others (omega (arith, some, times_cons place k places, first))

-- ---- all seats

-- the claims of seats of these numbers, from the first on: each rise, and have the seat's number as their author
abbrev pub AreClaims : List ℕ → ℕ → ℕ → ℕ → List (List ℕ) → Type 0
AreClaims authors from to number [] = Unit {0}
AreClaims authors from to number (seat ∷ seats) = AreRising from to seat × AreSigned number authors seat × AreClaims authors from to (number + 1) seats

-- how many claims there are
abbrev pub count_claims : List (List ℕ) → ℕ
count_claims [] = 0
count_claims (seat ∷ seats) = length seat + count_claims seats

module _ (authors : List ℕ) (from to : ℕ) where
  none_of_others : (place author number : ℕ) (seats : List (List ℕ)) → AreClaims authors from to number seats → slice_get authors place ≡ Some author → author < number → times_claimed place seats ≡ 0
  none_of_others place author number [] are is below = refl
  none_of_others place author number (seat ∷ seats) are is below =
      let rest = none_of_others place author (number + 1) seats are.2 is (omega (arith, below)) in
      let first : times place seat ≡ 0 = by (times place seat) refl in
      omega (arith, first, rest)
    where
      by : (n : ℕ) → times place seat ≡ n → times place seat ≡ 0
      by zero none = none
      by (suc n) some =
          let other : slice_get authors place ≡ Some number = author_of place number authors seat are.1 (omega (arith, some)) in
          let same : author ≡ number = cc (is, other) in
          absurd (omega (arith, same, below))

  pub claimed_once_at_most : (place number : ℕ) (seats : List (List ℕ)) → AreClaims authors from to number seats → times_claimed place seats ≤ 1
  claimed_once_at_most place number [] are = omega arith
  claimed_once_at_most place number (seat ∷ seats) are = by (times place seat) refl (claimed_once_at_most place (number + 1) seats are.2)
    where
      by : (n : ℕ) → times place seat ≡ n → times_claimed place seats ≤ 1 → times_claimed place (seat ∷ seats) ≤ 1
      by zero none others = omega (arith, none, others)
      by (suc n) some others =
          let is : slice_get authors place ≡ Some number = author_of place number authors seat are.1 (omega (arith, some)) in
          let rest = none_of_others place number (number + 1) seats are.2 is (omega arith) in
          let first = once_at_most place from to seat are.0 in
          omega (arith, first, rest)

  pub none_claimed_before : (place number : ℕ) (seats : List (List ℕ)) → AreClaims authors from to number seats → place < from → times_claimed place seats ≡ 0
  none_claimed_before place number [] are before = refl
  none_claimed_before place number (seat ∷ seats) are before =
      let rest = none_claimed_before place (number + 1) seats are.2 before in
      let first = none_before place from to seat before are.0 in
      omega (arith, first, rest)

  pub none_claimed_behind : (place number : ℕ) (seats : List (List ℕ)) → AreClaims authors from to number seats → to ≤ place → times_claimed place seats ≡ 0
  none_claimed_behind place number [] are behind = refl
  none_claimed_behind place number (seat ∷ seats) are behind =
      let rest = none_claimed_behind place (number + 1) seats are.2 behind in
      let first = none_behind place from to seat behind are.0 in
      omega (arith, first, rest)

-- ---- sums over the places below a bound

abbrev pub sum_below : (ℕ → ℕ) → ℕ → ℕ
sum_below f zero = 0
sum_below f (suc n) = sum_below f n + f n

sum_plus : (f g h : ℕ → ℕ) → ((k : ℕ) → h k ≡ f k + g k) → (n : ℕ) → sum_below h n ≡ sum_below f n + sum_below g n
sum_plus f g h at zero = omega arith
sum_plus f g h at (suc n) = let rest = sum_plus f g h at n in let last = at n in omega (arith, rest, last)

sum_none : (f : ℕ → ℕ) (n : ℕ) → ((k : ℕ) → k < n → f k ≡ 0) → sum_below f n ≡ 0
sum_none f zero none = refl
sum_none f (suc n) none =
    let rest = sum_none f n (λ k within. none k (omega (arith, within))) in let last = none n (omega arith) in omega (arith, rest, last)

sum_one : (k n : ℕ) → k < n → sum_below (λ p. one_if (k == p)) n ≡ 1
sum_one k zero within = absurd (omega (arith, within))
sum_one k (suc n) within = by (k == n) refl (sum_one k n)
  where
    by : (b : Bool) → (k == n) ≡ b → (k < n → sum_below (λ p. one_if (k == p)) n ≡ 1) → sum_below (λ p. one_if (k == p)) (suc n) ≡ 1
    by true is others =
        let same : k ≡ n = grind (arith, nat_tests, is) in
        let rest = sum_none (λ p. one_if (k == p)) n (λ p below. elsewhere p k (inr (omega (arith, same, below)))) in
        let last = here n k same in
        omega (arith, rest, last)
    by false is others =
        let below : k < n = grind (arith, nat_tests, is, within) in
        let rest = others below in
        let last = elsewhere n k (inl below) in
        omega (arith, rest, last)

-- as many places as there are claims, each so often as it is claimed
sum_times : (from to : ℕ) (places : List ℕ) → AreRising from to places → sum_below (λ p. times p places) to ≡ length places
sum_times from to [] rise = sum_none (λ p. times p []) to (λ k within. refl)
sum_times from to (k ∷ places) rise =
    let both = sum_plus (λ p. one_if (k == p)) (λ p. times p places) (λ p. times p (k ∷ places)) (λ p. times_cons p k places) to in
    let first = sum_one k to (let up = rising_within (k + 1) to places rise.1 in omega (arith, up)) in
    let rest = sum_times (k + 1) to places rise.1 in
    omega (arith, both, first, rest)

sum_claimed : (authors : List ℕ) (from to number : ℕ) (seats : List (List ℕ)) → AreClaims authors from to number seats → sum_below (λ p. times_claimed p seats) to ≡ count_claims seats
sum_claimed authors from to number [] are = sum_none (λ p. 0) to (λ k within. refl)
sum_claimed authors from to number (seat ∷ seats) are =
    let both = sum_plus (λ p. times p seat) (λ p. times_claimed p seats) (λ p. times_claimed p (seat ∷ seats)) (λ p. refl) to in
    let first = sum_times from to seat are.0 in
    let rest = sum_claimed authors from to (number + 1) seats are.2 in
    omega (arith, both, first, rest)

-- a sum of numbers of which none is above 1, over as many as it is
module _ (f : ℕ → ℕ) (from : ℕ) (most : (k : ℕ) → f k ≤ 1) (none : (k : ℕ) → k < from → f k ≡ 0) where
  sum_at_most : (n m : ℕ) → n ≡ from + m → sum_below f n ≤ m
  sum_at_most zero m at = omega arith
  sum_at_most (suc n) zero at = let all = sum_none f (suc n) (λ k within. none k (omega (arith, within, at))) in omega (arith, all)
  sum_at_most (suc n) (suc m) at = let rest = sum_at_most n m (omega (arith, at)) in let last = most n in omega (arith, rest, last)

  each_once : (n m : ℕ) → n ≡ from + m → sum_below f n ≡ m → (k : ℕ) → from ≤ k → k < n → f k ≡ 1
  each_once zero m at whole k low within = absurd (omega (arith, within))
  each_once (suc n) zero at whole k low within = absurd (omega (arith, at, low, within))
  each_once (suc n) (suc m) at whole k low within = by (k == n) refl (each_once n m (omega (arith, at)))
    where
      total : sum_below f n + f n ≡ suc m
      total = whole

      last : f n ≡ 1
      last = let rest = sum_at_most n m (omega (arith, at)) in let one = most n in omega (arith, total, rest, one)

      by : (b : Bool) → (k == n) ≡ b → (sum_below f n ≡ m → (j : ℕ) → from ≤ j → j < n → f j ≡ 1) → f k ≡ 1
      by true is others = let same : k ≡ n = grind (arith, nat_tests, is) in ap f same ∙ last
      by false is others = let below : k < n = grind (arith, nat_tests, is, within) in others (omega (arith, total, last)) k low below

-- each place is claimed once, where there are as many claims as places
pub all_claimed : (authors : List ℕ) (from to : ℕ) (seats : List (List ℕ)) → AreClaims authors from to 1 seats → to ≡ from + count_claims seats → AreClaimed from to seats
all_claimed authors from to seats are many = record {
  once =
      each_once (λ p. times_claimed p seats) from (λ k. claimed_once_at_most authors from to k 1 seats are) (λ k before. none_claimed_before authors from to k 1 seats are before)
      to (count_claims seats) many (sum_claimed authors from to 1 seats are);
  none = outside;
}
  where
    outside : (place : ℕ) → (place < from) ⊎ (to ≤ place) → times_claimed place seats ≡ 0
    outside place (inl before) = none_claimed_before authors from to place 1 seats are before
    outside place (inr behind) = none_claimed_behind authors from to place 1 seats are behind
