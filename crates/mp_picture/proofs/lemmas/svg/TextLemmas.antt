-- Texts that begin with other bytes differ, and numbers in a text end where no digit follows.
use Rattle.std.proofs.Common.{◌≡◌, ◌≢◌, ℕ, ◌+◌, ◌%◌, ◌<◌, ◌≤◌, ◌^◌, List, [], ◌∷◌, ◌++◌, refl, sym, ap, subst, ◌∙◌, ◌⊎◌, inl, inr, arith}
use Rattle.std.specs.Fmt.{decimal}
use Rattle.std.proofs.lemmas.Fmt.{decimal_by_steps, decimal_injective}
use Rattle.std.proofs.lemmas.List.{append_cancel_left}

pub other_head : (k j : ℕ) (xs ys : List ℕ) → k ≢ j → k ∷ xs ≡ j ∷ ys → ⊥
other_head k j xs ys differ same = differ (let head : k ≡ j = cc in head)

-- a digit's code
record IsDigit (d : ℕ) : Type 0 where
  low : 48 ≤ d
  high : d ≤ 57

abbrev AreDigits : List ℕ → Type 0
AreDigits [] = Unit {0}
AreDigits (d ∷ ds) = IsDigit d × AreDigits ds

-- a text that begins with no digit
abbrev pub NoDigit : List ℕ → Type 0
NoDigit [] = Unit {0}
NoDigit (d ∷ ds) = 57 < d ⊎ d < 48

digits_more : (ds : List ℕ) (d : ℕ) → AreDigits ds → IsDigit d → AreDigits (ds ++ d ∷ [])
digits_more [] d all last = (last, tt)
digits_more (e ∷ ds) d all last = (all.0, digits_more ds d all.1 last)

decimal_digits : (n : ℕ) → n < 2 ^ 64 → AreDigits (decimal n)
decimal_digits n small =
    decimal_by_steps (λ k ds. AreDigits ds)
    (λ k below. (record { low = omega arith; high = omega (arith, below) }, tt))
    (λ k ds more all. digits_more ds (48 + k % 10) all (record { low = omega arith; high = omega arith }))
    n small

no_both : (d : ℕ) → IsDigit d → 57 < d ⊎ d < 48 → ⊥
no_both d is (inl above) = omega (arith, is.high, above)
no_both d is (inr below) = omega (arith, is.low, below)

same_front : (ds es xs ys : List ℕ) → AreDigits ds → AreDigits es → NoDigit xs → NoDigit ys → ds ++ xs ≡ es ++ ys → ds ≡ es
same_front [] [] xs ys all other none bare same = refl
same_front [] (b ∷ es) [] ys all other none bare same = cc
same_front [] (b ∷ es) (x ∷ xs) ys all other none bare same =
    let head : x ≡ b = cc in
    absurd (no_both b other.0 (subst (λ (d : ℕ). 57 < d ⊎ d < 48) head none))
same_front (a ∷ ds) [] xs [] all other none bare same = cc
same_front (a ∷ ds) [] xs (y ∷ ys) all other none bare same =
    let head : y ≡ a = cc in
    absurd (no_both a all.0 (subst (λ (d : ℕ). 57 < d ⊎ d < 48) head bare))
same_front (a ∷ ds) (b ∷ es) xs ys all other none bare same =
    let head : a ≡ b = cc in
    let rest : ds ++ xs ≡ es ++ ys = cc in
    let tail : ds ≡ es = same_front ds es xs ys all.1 other.1 none bare rest in
    cc

-- a number and what follows it are known by their text
pub same_number : (m n : ℕ) (xs ys : List ℕ) → m < 2 ^ 64 → n < 2 ^ 64 → NoDigit xs → NoDigit ys → decimal m ++ xs ≡ decimal n ++ ys → (m ≡ n) × (xs ≡ ys)
same_number m n xs ys small short none bare same =
    let front : decimal m ≡ decimal n = same_front (decimal m) (decimal n) xs ys (decimal_digits m small) (decimal_digits n short) none bare same in
    let is : m ≡ n = decimal_injective m n small short front in
    (is, append_cancel_left (decimal n) xs ys (ap (λ (ds : List ℕ). ds ++ xs) (sym front) ∙ same))
