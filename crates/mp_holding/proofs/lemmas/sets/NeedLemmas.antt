-- Needs and the sets that meet them.
use Rattle.std.proofs.Common.{◌≡◌, ℕ, ◌+◌, ◌*◌, ◌/◌, ◌%◌, ◌<◌, ◌&&◌, ◌||◌, ◌⊎◌, inl, inr, Bool, true, false, List, Option, Some, None, refl, ap, ◌∙◌, arith}
use Rattle.std.specs.Prelude.{slice_get}
use Rattle.std.proofs.lemmas.Bool.{and_parts}
use Rattle.mp_holding.specs.declared.sets.needs.Need.{Need}
use Rattle.mp_holding.specs.declared.sets.needs.Need.TheVariants.{Always, Never, Member}
use Rattle.mp_holding.specs.declared.sets.needs.Needs.{Needs}
use Rattle.mp_holding.specs.declared.sets.needs.Shape.{Shape}
use Rattle.mp_holding.specs.declared.sets.needs.Shape.TheVariants.{Pairs, Any}
use Rattle.mp_holding.specs.sets.Laws.{IsWithin, KeepsMore}
use Rattle.mp_holding.specs.sets.Needs.{is_met, are_met, are_met_in, are_met_at, need_of, need_at}
use Rattle.mp_holding.specs.sets.Elimination.{where_no_need}
use Rattle.mp_holding.proofs.lemmas.sets.ClosedLemmas.{true_false, and_true, or_first, or_second, or_cases}

-- ---- a greater set meets more

or_grows : (a b c d : Bool) → (a ≡ true → c ≡ true) → (b ≡ true → d ≡ true) → (a || b) ≡ true → (c || d) ≡ true
or_grows a b c d first second is = by (or_cases a b is)
  where
    by : (a ≡ true) ⊎ (b ≡ true) → (c || d) ≡ true
    by (inl so) = or_first c d (first so)
    by (inr so) = or_second c d (second so)

and_grows : (a b c d : Bool) → (a ≡ true → c ≡ true) → (b ≡ true → d ≡ true) → (a && b) ≡ true → (c && d) ≡ true
and_grows a b c d first second is = let parts = and_parts a b is in and_true c d (first parts.0) (second parts.1)

module _ (set other : ℕ → Bool) (within : IsWithin set other) where
  need_grows : (need : Need) → is_met set need ≡ true → is_met other need ≡ true
  need_grows Always is = is
  need_grows Never is = is
  need_grows (Member k) is = within k is

  needs_grow : (shape : Shape) (needs : Needs) → are_met shape set needs ≡ true → are_met shape other needs ≡ true
  needs_grow Pairs needs =
      or_grows (is_met set needs.first && is_met set needs.second) (is_met set needs.third && is_met set needs.fourth)
      (is_met other needs.first && is_met other needs.second) (is_met other needs.third && is_met other needs.fourth)
      (and_grows (is_met set needs.first) (is_met set needs.second) (is_met other needs.first) (is_met other needs.second) (need_grows needs.first) (need_grows needs.second))
      (and_grows (is_met set needs.third) (is_met set needs.fourth) (is_met other needs.third) (is_met other needs.fourth) (need_grows needs.third) (need_grows needs.fourth))
  needs_grow Any needs =
      or_grows (is_met set needs.first) (is_met set needs.second || (is_met set needs.third || is_met set needs.fourth))
      (is_met other needs.first) (is_met other needs.second || (is_met other needs.third || is_met other needs.fourth))
      (need_grows needs.first)
      (or_grows (is_met set needs.second) (is_met set needs.third || is_met set needs.fourth) (is_met other needs.second) (is_met other needs.third || is_met other needs.fourth)
      (need_grows needs.second)
      (or_grows (is_met set needs.third) (is_met set needs.fourth) (is_met other needs.third) (is_met other needs.fourth) (need_grows needs.third) (need_grows needs.fourth)))

  slot_grows : (shape : Shape) (slot : Option Needs) → are_met_in shape set slot ≡ true → are_met_in shape other slot ≡ true
  slot_grows shape None is = is
  slot_grows shape (Some needs) is = needs_grow shape needs is

pub met_grows : (shape : Shape) (needs : List Needs) → KeepsMore (are_met_at shape needs)
met_grows shape needs set other within k is = slot_grows set other within shape (slice_get needs k) is

-- ---- a number that nobody needs

module _ (set other : ℕ → Bool) (gone : ℕ) (same : (k : ℕ) → (k ≡ gone → ⊥) → set k ≡ other k) where
  need_same : (need : Need) → (need ≡ Member gone → ⊥) → is_met set need ≡ is_met other need
  need_same Always free = refl
  need_same Never free = refl
  need_same (Member k) free = same k (λ is. free (ap Member is))

  four_same : (shape : Shape) (needs : Needs) → (needs.first ≡ Member gone → ⊥) → (needs.second ≡ Member gone → ⊥) → (needs.third ≡ Member gone → ⊥) → (needs.fourth ≡ Member gone → ⊥)
      → are_met shape set needs ≡ are_met shape other needs
  four_same Pairs needs first second third fourth =
      let a = need_same needs.first first in
      let b = need_same needs.second second in
      let c = need_same needs.third third in
      let d = need_same needs.fourth fourth in
      ap (λ x. (x && is_met set needs.second) || (is_met set needs.third && is_met set needs.fourth)) a
      ∙ ap (λ x. (is_met other needs.first && x) || (is_met set needs.third && is_met set needs.fourth)) b
      ∙ ap (λ x. (is_met other needs.first && is_met other needs.second) || (x && is_met set needs.fourth)) c
      ∙ ap (λ x. (is_met other needs.first && is_met other needs.second) || (is_met other needs.third && x)) d
  four_same Any needs first second third fourth =
      let a = need_same needs.first first in
      let b = need_same needs.second second in
      let c = need_same needs.third third in
      let d = need_same needs.fourth fourth in
      ap (λ x. x || (is_met set needs.second || (is_met set needs.third || is_met set needs.fourth))) a
      ∙ ap (λ x. is_met other needs.first || (x || (is_met set needs.third || is_met set needs.fourth))) b
      ∙ ap (λ x. is_met other needs.first || (is_met other needs.second || (x || is_met set needs.fourth))) c
      ∙ ap (λ x. is_met other needs.first || (is_met other needs.second || (is_met other needs.third || x))) d

  slot_same : (shape : Shape) (slot : Option Needs) → ((p : ℕ) → p < 4 → need_of p slot ≡ Member gone → ⊥) → are_met_in shape set slot ≡ are_met_in shape other slot
  slot_same shape None free = refl
  slot_same shape (Some needs) free = four_same shape needs (free 0 (omega arith)) (free 1 (omega arith)) (free 2 (omega arith)) (free 3 (omega arith))

place_of : (needs : List Needs) (k p : ℕ) → p < 4 → need_at needs (4 * k + p) ≡ need_of p (slice_get needs k)
place_of needs k p low =
    let number : (4 * k + p) / 4 ≡ k = omega (arith, low) in
    let place : (4 * k + p) % 4 ≡ p = omega (arith, low) in
    ap (λ i. need_of ((4 * k + p) % 4) (slice_get needs i)) number ∙ ap (λ i. need_of i (slice_get needs k)) place

pub met_without : (shape : Shape) (needs : List Needs) (set other : ℕ → Bool) (gone : ℕ) → ((k : ℕ) → (k ≡ gone → ⊥) → set k ≡ other k) → (k : ℕ) → where_no_need needs gone k
    → are_met_at shape needs set k ≡ are_met_at shape needs other k
met_without shape needs set other gone same k free =
    slot_same set other gone same shape (slice_get needs k)
    (λ p low is. free (4 * k + p) (omega (arith, low)) (place_of needs k p low ∙ is))

-- ---- who has needs

pub has_place : (shape : Shape) (needs : List Needs) (set : ℕ → Bool) (slot : Option Needs) → are_met_in shape set slot ≡ true → (found : Needs) × (slot ≡ Some found)
has_place shape needs set None is = absurd (true_false false is refl)
has_place shape needs set (Some found) is = (found, refl)
