-- Numbers as they are written.
use Rattle.mp_text.proofs.lemmas.lexing.Names.{◌≡◌, ◌+◌, ◌-◌, ◌*◌, ◌/◌, ◌^◌, ◌<◌, ◌≤◌, ◌∷◌, ◌++◌, length-set, ℕ, true, List, [], Some, decimal, arith, is_ascii_digit, list_all, decimal_by_steps, length-decimal-le, decimal_nonempty, nat_tests, list_all-append, number_from, spelled_number, length, zero, suc, length-append, decimal_step}
use Rattle.std.proofs.Math.Nat.{pow-suc, one-le-pow}

-- one more digit
number_from-push : (a : ℕ) (ds : List ℕ) (n d : ℕ) → number_from a ds ≡ Some n → d < 10 → n * 10 + d < 2 ^ 64 → number_from a (ds ++ (48 + d) ∷ []) ≡ Some (n * 10 + d)
unfolding number_from
number_from-push a [] n d read low fits = grind (arith, nat_tests)
number_from-push a (b ∷ bs) n d read low fits = grind (arith, nat_tests, (number_from-push (a * 10 + (b - 48)) bs n d))

-- a number that is written is read
number_from-decimal : (n : ℕ) → n < 2 ^ 64 → number_from 0 (decimal n) ≡ Some n
unfolding number_from
number_from-decimal n fits = decimal_by_steps (λ n ds. n < 2 ^ 64 → number_from 0 ds ≡ Some n) (λ n low _. grind (arith, number_from-push)) (λ n ds high read small. grind (arith, number_from-push)) n fits fits

-- a written number is spelled
pub spelled_number-decimal : (n : ℕ) → n < 2 ^ 64 → spelled_number (decimal n) ≡ Some n
unfolding spelled_number
spelled_number-decimal n fits = grind (arith, nat_tests, decimal_nonempty, number_from-decimal, (length-decimal-le 20 n))

-- a written number is made of digits
pub decimal_digits : (n : ℕ) → n < 2 ^ 64 → list_all is_ascii_digit (decimal n) ≡ true
decimal_digits n fits = decimal_by_steps (λ n ds. list_all is_ascii_digit ds ≡ true) (λ n low. grind (arith, nat_tests)) (λ n ds high before. grind (arith, nat_tests, list_all-append)) n fits

pub ruleset changepiece_write_steps = (length-set)

-- a power of ten that is no more than the number
more_digits : (k n : ℕ) → 10 ^ k ≤ n → n < 2 ^ 64 → k < length (decimal n)
more_digits zero n low fits = grind (arith, decimal_nonempty)
more_digits (suc k) n low fits = grind (arith, pow-suc, one-le-pow, decimal_step, length-append, (more_digits k (n / 10)))

pub digits_of_power : (k n : ℕ) → 10 ^ k ≤ n → n < 10 * 10 ^ k → n < 2 ^ 64 → length (decimal n) ≡ k + 1
digits_of_power k n low high fits = grind (arith, pow-suc, more_digits, (length-decimal-le (suc k) n))

-- of a number below 2 ^ 32
pub few_digits : (n : ℕ) → n < 2 ^ 32
    → (length (decimal n) ≤ 10) × (10 ≤ n → n < 100 → length (decimal n) ≡ 2) × (100 ≤ n → n < 1000 → length (decimal n) ≡ 3) × (1000 ≤ n → n < 10000 → length (decimal n) ≡ 4)
    × (10000 ≤ n → n < 100000 → length (decimal n) ≡ 5) × (100000 ≤ n → n < 1000000 → length (decimal n) ≡ 6)
few_digits n small = grind (arith, (length-decimal-le 10 n), (digits_of_power 1 n), (digits_of_power 2 n), (digits_of_power 3 n), (digits_of_power 4 n), (digits_of_power 5 n))
