-- How often a number is listed.
use Rattle.std.proofs.Common.{◌≡◌, ℕ, zero, suc, ◌+◌, ◌<◌, ◌≤◌, Bool, true, false, cond, List, [], ◌∷◌, ◌++◌, length, nat_lt, All, refl, ap, arith, eq-eqb}
use Rattle.std.specs.Prelude.{◌==◌, slice_index_or}
use Rattle.std.proofs.lemmas.Bool.Decides.{nat_tests}
use Rattle.std.proofs.lemmas.List.Sums.{sum_by-append, sum_by-cons}
use Rattle.mp_modules.specs.automata.Codes.{bit}
use Rattle.mp_kernel.specs.events.Adding.{listed}

listed_cons : (w x : ℕ) (xs : List ℕ) → listed w (x ∷ xs) ≡ bit (x == w) + listed w xs
listed_cons w x xs = sum_by-cons (λ d. cond (d == w) 1 0) x xs

pub listed_append : (w : ℕ) (xs ys : List ℕ) → listed w (xs ++ ys) ≡ listed w xs + listed w ys
listed_append w xs ys = sum_by-append (λ d. cond (d == w) 1 0) xs ys

pub listed_here : (xs : List ℕ) (k d : ℕ) → k < length xs → 0 < listed (slice_index_or xs k d) xs
listed_here [] k d within = absurd (omega arith)
listed_here (x ∷ xs) zero d within =
    let more = listed_cons x x xs in
    let own : bit (x == x) ≡ 1 = ap bit (eq-eqb x x refl) in
    omega arith
listed_here (x ∷ xs) (suc k) d within =
    let more = listed_cons (slice_index_or xs k d) x xs in
    let rest = listed_here xs k d (omega arith) in
    omega arith

below_when : (bound x n : ℕ) (low : Bool) → nat_lt x bound ≡ low → 0 < n → (bound ≤ x → n ≡ 0) → x < bound
below_when bound x n true is some none = grind (arith, nat_tests)
below_when bound x n false is some none =
    let high : bound ≤ x = grind (arith, nat_tests) in
    let zero_n = none high in
    absurd (omega arith)

-- where no number from a bound on is listed, all that are listed are below it
pub all_below : (bound : ℕ) (xs : List ℕ) → ((w : ℕ) → bound ≤ w → listed w xs ≡ 0) → All (λ w. w < bound) xs
all_below bound xs none k d within =
    let x = slice_index_or xs k d in
    below_when bound x (listed x xs) (nat_lt x bound) refl (listed_here xs k d within) (none x)
