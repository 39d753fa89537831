-- Multiples of a number, and the rests between them.
use Rattle.std.proofs.Common.{◌≡◌, ℕ, ◌+◌, ◌-◌, ◌*◌, ◌/◌, ◌%◌, ◌<◌, ◌≤◌, ap, ◌∙◌, arith, inl, inr}
use Rattle.std.proofs.lemmas.Bool.{cases_lt}
use Rattle.std.proofs.lemmas.Nat.{div-add-mod', mod_below, mod-mul-add}

pub rest_le : (t k : ℕ) → t % k ≤ t
rest_le t k = let e = div-add-mod' t k in omega (arith, e)

-- without its rest a number is a multiple
pub whole_rest : (t k : ℕ) → 0 < k → (t - t % k) % k ≡ 0
whole_rest t k positive =
    let whole = div-add-mod' t k in
    let is : t - t % k ≡ t / k * k + 0 = omega (arith, whole) in
    ap (λ x. x % k) is ∙ mod-mul-add (t / k) k 0 positive

-- from a multiple on to before the next the rest is what is above it
pub rest_above : (k b t : ℕ) → b % k ≡ 0 → b ≤ t → t < b + k → t % k ≡ t - b
rest_above k b t whole from below =
    let e = div-add-mod' b k in
    let is : t ≡ b / k * k + (t - b) = omega (arith, e, whole, from) in
    ap (λ x. x % k) is ∙ mod-mul-add (b / k) k (t - b) (omega (arith, from, below))

-- and it is the last one up to there
pub whole_is : (k b t : ℕ) → b % k ≡ 0 → b ≤ t → t < b + k → t - t % k ≡ b
whole_is k b t whole from below = let rest = rest_above k b t whole from below in omega (arith, rest, from)

-- of two multiples the lesser is less by one more
pub multiples_apart : (k a b : ℕ) → a % k ≡ 0 → b % k ≡ 0 → a < b → a + k ≤ b
multiples_apart k a b first second less = elim (cases_lt b (a + k)) as (λ _. a + k ≤ b) [
  | inl near ↦ let rest = rest_above k a b first (omega (arith, less)) near in absurd (omega (arith, rest, second, less))
  | inr far ↦ far
]

-- a multiple up to a number is none above the last one up to there
pub whole_from : (k b t : ℕ) → 0 < k → b % k ≡ 0 → b ≤ t → b ≤ t - t % k
whole_from k b t positive whole from = elim (cases_lt (t - t % k) b) as (λ _. b ≤ t - t % k) [
  | inl above ↦
      let apart = multiples_apart k (t - t % k) b (whole_rest t k positive) whole above in
      let low = mod_below t k positive in
      absurd (omega (arith, apart, low, from))
  | inr le ↦ le
]

-- no multiple lies above a number and below the next one
pub none_between : (k t b : ℕ) → 0 < k → t < b → b < t - t % k + k → b % k ≡ 0 → ⊥
none_between k t b positive above below whole =
    let low = rest_le t k in
    let apart = multiples_apart k (t - t % k) b (whole_rest t k positive) whole (omega (arith, low, above)) in
    omega (arith, apart, below)
