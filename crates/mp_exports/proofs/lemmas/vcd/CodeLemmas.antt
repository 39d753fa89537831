-- Codes and binary digits, digit by digit.
use Rattle.mp_exports.proofs.lemmas.vcd.Names.{◌≡◌, ◌+◌, ◌-◌, ◌/◌, ◌%◌, ◌<◌, ◌≤◌, ◌∷◌, ◌++◌, ℕ, List, [], append_assoc, length, drop, slice_set, zero, suc, ap, arith, cases_lt, ltb-false, nat_tests, drop-set, length-append, digits_of, code, bit, bits}

-- more digits than a number has are not written
digits_of-same : (most least n : ℕ) → n < most → n < least → digits_of most n ≡ digits_of least n
digits_of-same zero least n below under = absurd (omega arith)
digits_of-same (suc most) zero n below under = absurd (omega arith)
digits_of-same (suc most) (suc least) n below under = grind (arith, nat_tests, ltb-false, (digits_of-same most least (n / 94)))

pub code-one : (n : ℕ) → n < 94 → code n ≡ (33 + n) ∷ []
unfolding code
code-one n low = grind (arith, nat_tests)

pub code-more : (n : ℕ) → 94 ≤ n → code n ≡ (33 + n % 94) ∷ code (n / 94)
unfolding code
code-more n high = grind (arith, nat_tests, digits_of-same)

-- one bit more is written
pub bits_step : (whole digits : List ℕ) (start left rest : ℕ) → 0 < left → 0 < start → start ≤ length digits → whole ≡ bits left rest ++ drop start digits
    → whole ≡ bits (left - 1) (rest / 2) ++ drop (start - 1) (slice_set digits (start - 1) (bit rest))
unfolding bits
bits_step whole digits start left rest some room within same =
    let last : left ≡ suc (left - 1) = omega arith in
    grind (arith, append_assoc, (ap (λ k. bits k rest) last), (drop-set digits (start - 1) (bit rest) (omega arith)))

pub bits_long : (width level : ℕ) → length (bits width level) ≡ width
unfolding bits
bits_long zero level = grind (arith, nat_tests)
bits_long (suc width) level = grind (arith, nat_tests, length-append, (bits_long width (level / 2)))

pub code_longer : (w most : ℕ) → 0 < most → (94 ≤ w → length (code (w / 94)) ≤ most) → length (code w) ≤ most + 1
code_longer w most some later = grind (arith, nat_tests, code-one, code-more, cases_lt)

-- five digits at most
pub code_long : (w : ℕ) → w < 4294967296 → length (code w) ≤ 5
code_long w low =
    code_longer w 4 (omega arith) (λ _. code_longer (w / 94) 3 (omega arith) (λ _. code_longer (w / 94 / 94) 2 (omega arith) (λ _.
    code_longer (w / 94 / 94 / 94) 1 (omega arith) (λ _. let last : w / 94 / 94 / 94 / 94 < 94 = omega (arith, low) in omega (arith, ap length (code-one (w / 94 / 94 / 94 / 94) last))))))

-- one at least
pub code_some : (w : ℕ) → 0 < length (code w)
code_some w = grind (arith, nat_tests, code-one, code-more, cases_lt)
