-- Numbers that are read digit by digit.
use Rattle.std.proofs.Common.{◌≡◌, ◌∙◌, arith, ℕ, ◌+◌, ◌-◌, ◌*◌, ◌^◌, ◌<◌, ◌≤◌, List, [], ◌∷◌, length, drop, get_or, cond, Some, None}
use Rattle.std.proofs.lemmas.Bool.Decides.{nat_tests}
use Rattle.std.proofs.lemmas.List.{at_drop_all, at_drop_more}
use Rattle.std.specs.Char.{is_ascii_digit}
use Rattle.mp_streams.specs.Numbers.{number_from}

-- a number that is too large stays so
pub number_from_over : (n : ℕ) (bytes : List ℕ) → 2 ^ 64 ≤ n → number_from n bytes ≡ None
unfolding number_from
number_from_over n [] over = grind (arith, nat_tests)
number_from_over n (byte ∷ bytes) over = grind (arith, nat_tests, (number_from_over (n * 10 + (byte - 48)) bytes (omega arith)))

-- at a byte
pub number_from_next : (word : List ℕ) (i n : ℕ) → i < length word
    → number_from n (drop i word) ≡ cond (is_ascii_digit (get_or word i 0)) (number_from (n * 10 + (get_or word i 0 - 48)) (drop (i + 1) word)) None
unfolding number_from
number_from_next word i n within = at_drop_more (number_from n) word i 0 within

-- at the end
pub number_from_end : (word : List ℕ) (i n : ℕ) → length word ≤ i → n < 2 ^ 64 → number_from n (drop i word) ≡ Some n
unfolding number_from
number_from_end word i n over fits = at_drop_all (number_from n) word i over ∙ grind (arith, nat_tests)

pub ruleset digit_steps = (number_from_over, number_from_next, number_from_end)
