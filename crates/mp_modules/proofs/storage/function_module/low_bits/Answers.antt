use Rattle.std.proofs.Common.{◌≡◌, ◌*◌, ◌-◌, ◌%◌, ◌^◌, ◌<◌, ◌≤◌, ℕ, min, bit_and, ap, sym, ◌∙◌, arith}
use Rattle.std.proofs.Math.Nat.{mod-eq_of_lt}
use Rattle.std.proofs.Math.Pow.{pow-lt}
use Rattle.std.proofs.lemmas.Nat.{and_mask}
use Rattle.mp_modules.specs.storage.Widths.{modulus}
use Rattle.mp_modules.proofs.storage.function_module.low_bits.Goals as goal

-- the mask has a one in each bit of the width
mask : (width : ℕ) → width < 64 → 1 * 2 ^ width % 2 ^ 64 - 1 ≡ 2 ^ width - 1
mask width low =
    let below : 2 ^ width < 2 ^ 64 = pow-lt low in
    let one : 1 * 2 ^ width ≡ 2 ^ width = omega arith in
    ap (λ n. n - 1) (ap (λ n. n % 2 ^ 64) one ∙ mod-eq_of_lt below)

masked : (n width : ℕ) → width < 64 → bit_and n (1 * 2 ^ width % 2 ^ 64 - 1) ≡ n % modulus width
masked n width low =
    let least : width ≡ min width 64 = omega arith in
    ap (bit_and n) (mask width low) ∙ and_mask n width ∙ ap (λ k. n % 2 ^ k) least

whole : (n width : ℕ) → 64 ≤ width → n < 2 ^ 64 → n ≡ n % modulus width
whole n width wide fits =
    let all : 64 ≡ min width 64 = omega arith in
    sym (mod-eq_of_lt fits) ∙ ap (λ k. n % 2 ^ k) all

pub returns : goal.returns
returns c = masked c.args.level c.args.width c.if-width-ge64.false

pub returns-then-width-ge64 : goal.returns-then-width-ge64
returns-then-width-ge64 c = whole c.args.level c.args.width c.if-width-ge64.true c.ranges.level.fits
