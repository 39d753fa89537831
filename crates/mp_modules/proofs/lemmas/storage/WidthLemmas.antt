-- What wraps at 64 bits has the right bits below each width.
use Rattle.std.proofs.Common.{◌≡◌, ◌+◌, ◌-◌, ◌*◌, ◌%◌, ◌^◌, ◌≤◌, ℕ, min, ap, sym, ◌∙◌, arith}
use Rattle.std.proofs.Math.Pow.{mod-mod-pow}
use Rattle.mp_modules.specs.storage.Widths.{modulus}

at_bits : (n bits : ℕ) → bits ≤ 64 → n % 2 ^ 64 % 2 ^ bits ≡ n % 2 ^ bits
at_bits n bits narrow =
    let all : 64 - bits + bits ≡ 64 = omega arith in
    ap (λ k. n % 2 ^ k % 2 ^ bits) (sym all) ∙ mod-mod-pow n (64 - bits) bits

pub wraps : (n width : ℕ) → n % 2 ^ 64 % modulus width ≡ n % modulus width
wraps n width = at_bits n (min width 64) (omega arith)

-- twice a number and another one, each step of which wraps
pub wraps_twice : (a b width : ℕ) → (a * 2 % 2 ^ 64 + b) % 2 ^ 64 % modulus width ≡ (2 * a + b) % modulus width
wraps_twice a b width =
    let once : (a * 2 % 2 ^ 64 + b) % 2 ^ 64 ≡ (2 * a + b) % 2 ^ 64 = omega arith in
    ap (λ n. n % modulus width) once ∙ wraps (2 * a + b) width
