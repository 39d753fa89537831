use Rattle.std.proofs.Common.{◌≡◌, ◌≤◌, ◌+◌, ◌-◌, ◌*◌, ◌%◌, ◌^◌, ℕ, min, ap, sym, ◌∙◌, arith}
use Rattle.std.proofs.Math.Nat.{mod-add-mod, mod-eq_of_lt}
use Rattle.std.proofs.Math.Pow.{mod-mod-pow}
use Rattle.mp_modules.specs.storage.AnyModules.{any_part_of, step}
use Rattle.mp_modules.specs.storage.Arithmetic.{ComputesAtWidth}
use Rattle.mp_modules.specs.storage.Widths.{modulus}
use Rattle.mp_modules.proofs.storage.laws.computes_modulo_width.Goals as goal

-- 2 ^ 64 is a multiple of the modulus
falls_out : (a width : ℕ) → width ≤ 64 → (a + 2 ^ 64) % 2 ^ width ≡ a % 2 ^ width
falls_out a width narrow =
    let whole : (a + 2 ^ 64) % 2 ^ 64 ≡ a % 2 ^ 64 = omega arith in
    sym (at (a + 2 ^ 64)) ∙ ap (λ n. n % 2 ^ width) whole ∙ at a
  where
    at : (n : ℕ) → n % 2 ^ 64 % 2 ^ width ≡ n % 2 ^ width
    at n = let all : 64 - width + width ≡ 64 = omega arith in ap (λ k. n % 2 ^ k % 2 ^ width) (sym all) ∙ mod-mod-pow n (64 - width) width

taken_back : (a b width : ℕ) → width ≤ 64 → b ≤ 2 ^ 64 → ((a + (2 ^ 64 - b)) % 2 ^ width + b) % 2 ^ width ≡ a % 2 ^ width
taken_back a b width narrow low =
    let back : a + (2 ^ 64 - b) + b ≡ a + 2 ^ 64 = omega arith in
    mod-add-mod (a + (2 ^ 64 - b)) (2 ^ width) b ∙ ap (λ n. n % 2 ^ width) back ∙ falls_out a width narrow

at_width : (width : ℕ) → width ≤ 64 → modulus width ≡ 2 ^ width → ComputesAtWidth width
unfolding any_part_of step
at_width width narrow is = record {
  constant = λ memory k a. ap (λ m. (a + k) % m) is;
  sum = λ memory a b. ap (λ m. (a + b) % m) is;
  difference = λ memory a b low. ap (λ m. ((a + (2 ^ 64 - b)) % m + b) % 2 ^ width) is ∙ taken_back a b width narrow low;
  joined = λ memory a b below. ap (λ m. (2 * a + b) % m) is ∙ mod-eq_of_lt below;
}

least : (width : ℕ) → width ≤ 64 → min width 64 ≡ width
least width narrow = omega arith

pub returns : goal.returns
returns c = λ width narrow. at_width width narrow (ap (λ bits. 2 ^ bits) (least width narrow))
