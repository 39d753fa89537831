-- Ways that are doubled.
use Rattle.std.proofs.Common.{◌≡◌, ℕ, ◌+◌, ◌<◌, ◌≤◌, Bool, cond, List, [], ◌∷◌, ◌++◌, All, length, get_or, filter, min, zero, suc, refl, ap, sym, ◌∙◌, zero-add, inl, inr, arith}
use Rattle.std.specs.List.{range_with_len}
use Rattle.std.proofs.lemmas.Bool.{cases_lt}
use Rattle.std.proofs.lemmas.List.{get_or_default, get_or_past, map-append}
use Rattle.std.proofs.lemmas.List.Elements.{filter-append}
use Rattle.mp_report.proofs.TimeLemmas.{times_more as range_more}
use Rattle.mp_check.specs.Ways.{way, least}
use Rattle.mp_check.specs.Doubling.{beyond, number_in, next_in, AreWays}
use Rattle.mp_check.specs.declared.rounds.Ways.{Ways}

module _ (next : ℕ → ℕ) where
  pub beyond_more : (a b k : ℕ) → beyond next (a + b) k ≡ beyond next b (beyond next a k)
  beyond_more zero b k = ap (λ c. beyond next c k) (zero-add b)
  beyond_more (suc a) b k = let e : suc a + b ≡ suc (a + b) = omega arith in ap (λ c. beyond next c k) e ∙ beyond_more a b (next k)

  pub way_more : (a b k : ℕ) → way next (a + b) k ≡ way next a k ++ way next b (beyond next a k)
  way_more zero b k = ap (λ c. way next c k) (zero-add b)
  way_more (suc a) b k = let e : suc a + b ≡ suc (a + b) = omega arith in ap (λ c. way next c k) e ∙ ap (λ l. k ∷ l) (way_more a b (next k))

pub least_low : (most : ℕ) (ks : List ℕ) → least most ks ≤ most
least_low most [] = omega arith
least_low most (k ∷ ks) = let rest = least_low most ks in omega (arith, rest)

pub least_append : (most : ℕ) (xs ys : List ℕ) → least most (xs ++ ys) ≡ min (least most xs) (least most ys)
least_append most [] ys = let low = least_low most ys in omega (arith, low)
least_append most (x ∷ xs) ys = let rest = least_append most xs ys in omega (arith, rest)

-- the next numbers stay
pub next_low : (numbers : List ℕ) → All (λ k. k ≤ length numbers) numbers → (k : ℕ) → next_in numbers k ≤ length numbers
next_low numbers all k = elim (cases_lt k (length numbers)) as (λ _. next_in numbers k ≤ length numbers) [
  | inl within ↦ all k (length numbers) within
  | inr past ↦ let e = get_or_past numbers k (length numbers) past in omega (arith, e)
]

pub beyond_low : (numbers : List ℕ) → All (λ k. k ≤ length numbers) numbers → (count k : ℕ) → k ≤ length numbers → beyond (next_in numbers) count k ≤ length numbers
beyond_low numbers all zero k low = low
beyond_low numbers all (suc count) k low = beyond_low numbers all count (next_in numbers k) (next_low numbers all k)

abbrev pub one_if : Bool → ℕ
one_if b = cond b 1 0

module _ (numbers : List ℕ) (all : All (λ k. k ≤ length numbers) numbers) (half : Ways) (count k : ℕ) (are : AreWays (next_in numbers) (length numbers) count half) (low : k ≤ length numbers) where
  abbrev next : ℕ → ℕ
  next = next_in numbers

  abbrev none : ℕ
  none = length numbers

  module _ (middle end : ℕ) (middle_is : middle ≡ number_in none half.beyond.items k) (end_is : end ≡ number_in none half.beyond.items middle) where
    at_middle : middle ≡ beyond next count k
    at_middle = middle_is ∙ are.beyond_is k low

    middle_low : middle ≤ none
    middle_low = let l = beyond_low numbers all count k low in omega (arith, l, at_middle)

    at_end : end ≡ beyond next (count + count) k
    at_end = end_is ∙ are.beyond_is middle middle_low ∙ ap (beyond next count) at_middle ∙ sym (beyond_more next count count k)

    end_low : end ≤ none
    end_low = let l = beyond_low numbers all (count + count) k low in omega (arith, l, at_end)

    pub beyond_twice : end ≡ beyond next (count + count + 0) k
    beyond_twice = let e : count + count ≡ count + count + 0 = omega arith in at_end ∙ ap (λ c. beyond next c k) e

    pub beyond_and_one : next end ≡ beyond next (count + count + 1) k
    beyond_and_one = ap next at_end ∙ sym (beyond_more next (count + count) 1 k)

    module _ (first second : ℕ) (first_is : first ≡ number_in none half.least.items k) (second_is : second ≡ number_in none half.least.items middle) where
      both : min first second ≡ least none (way next (count + count) k)
      both =
          ap (λ a. min a second) (first_is ∙ are.least_is k low)
          ∙ ap (min (least none (way next count k))) (second_is ∙ are.least_is middle middle_low ∙ ap (λ x. least none (way next count x)) at_middle)
          ∙ sym (least_append none (way next count k) (way next count (beyond next count k))) ∙ sym (ap (least none) (way_more next count count k))

      pub least_twice : min first second ≡ least none (way next (count + count + 0) k)
      least_twice = let e : count + count ≡ count + count + 0 = omega arith in both ∙ ap (λ c. least none (way next c k)) e

      pub least_and_one : min (min first second) end ≡ least none (way next (count + count + 1) k)
      least_and_one =
          let alone : end ≡ min end none = omega (arith, end_low) in
          ap (λ a. min a end) both ∙ ap (min (least none (way next (count + count) k))) (alone ∙ ap (λ x. min x none) at_end)
          ∙ sym (least_append none (way next (count + count) k) (way next 1 (beyond next (count + count) k))) ∙ sym (ap (least none) (way_more next (count + count) 1 k))

-- numbers one by one
pub number_below : (g : ℕ → ℕ) (none : ℕ) (items : List ℕ) → length items ≡ none → g none ≡ none → ((k : ℕ) → k < none → get_or items k 0 ≡ g k) → (k : ℕ) → k ≤ none → number_in none items k ≡ g k
number_below g none items size last each k low = elim (cases_lt k none) as (λ _. number_in none items k ≡ g k) [
  | inl below ↦ get_or_default items k none 0 (omega (arith, below, size)) ∙ each k below
  | inr over ↦ let same : none ≡ k = omega (arith, low, over) in get_or_past items k none (omega (arith, over, size)) ∙ sym last ∙ ap g same
]

-- what stands for none stays
pub beyond_none : (numbers : List ℕ) (count : ℕ) → beyond (next_in numbers) count (length numbers) ≡ length numbers
beyond_none numbers zero = refl
beyond_none numbers (suc count) = ap (beyond (next_in numbers) count) (get_or_past numbers (length numbers) (length numbers) (omega arith)) ∙ beyond_none numbers count

pub least_none : (numbers : List ℕ) (count : ℕ) → least (length numbers) (way (next_in numbers) count (length numbers)) ≡ length numbers
least_none numbers zero = refl
least_none numbers (suc count) =
    let e = get_or_past numbers (length numbers) (length numbers) (omega arith) in
    let rest = ap (λ x. least (length numbers) (way (next_in numbers) count x)) e ∙ least_none numbers count in
    omega (arith, rest)

-- numbers one by one through a function
pub ruleset number_steps = (range_more, map-append)

pub filter_more : (p : ℕ → Bool) (n : ℕ) → filter p (range_with_len 0 (n + 1)) ≡ filter p (range_with_len 0 n) ++ cond (p n) (n ∷ []) []
filter_more p n = ap (filter p) (range_more 0 n) ∙ filter-append p (range_with_len 0 n) ((0 + n) ∷ []) ∙ ap (λ k. filter p (range_with_len 0 n) ++ filter p (k ∷ [])) (zero-add n)
