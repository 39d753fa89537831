-- Numbers, and what stands next after them.
use Rattle.std.proofs.Common.{◌≡◌, ℕ, ◌<◌, ◌≤◌, List, Option, Some, None, All, length, refl, ap, sym, ◌∙◌, arith, inl, inr}
use Rattle.std.proofs.lemmas.Bool.{cases_lt}
use Rattle.std.proofs.lemmas.List.{get_or_past}
use Rattle.std.proofs.lemmas.Option.{none-some}
use Rattle.mp_kernel.specs.declared.events.output_port.OutputPort.{OutputPort}
use Rattle.mp_kernel.specs.events.Firing.{no_port, copy_at}
use Rattle.mp_simulation.specs.bits.Copies.{AreChained, later_by}
use Rattle.mp_simulation.specs.bits.Simulators.{IsBelow}

-- by how much a copy is later than what it stands after it is later than its wire
pub later_far : (source : ℕ → ℕ × ℕ) (before : ℕ → Option ℕ) (next : List OutputPort) → AreChained source before next → (x : ℕ) (o : Option ℕ) → before x ≡ o → later_by next o ≤ (source x).1
later_far source before next chained x None is = omega arith
later_far source before next chained x (Some y) is = let far = chained.delay x y is in omega (arith, far)

-- what has a number next after it is a number
pub next_inside : (next : List OutputPort) (y x : ℕ) → (copy_at next y).wire ≡ Some x → y < length next
next_inside next y x is = elim (cases_lt y (length next)) as (λ _. y < length next) [
  | inl low ↦ low
  | inr past ↦ absurd (none-some x (sym (ap (λ (port : OutputPort). port.wire) (get_or_past next y no_port past)) ∙ is))
]

-- what stands next after a number has a number
pub next_below : (next : List OutputPort) (bound y x : ℕ) → All (IsBelow bound) next → (copy_at next y).wire ≡ Some x → x < bound
next_below next bound y x below is = elim (cases_lt y (length next)) as (λ _. x < bound) [
  | inl low ↦ below y no_port low x is
  | inr past ↦ absurd (none-some x (sym (ap (λ (port : OutputPort). port.wire) (get_or_past next y no_port past)) ∙ is))
]

-- a number beyond all stands after none
pub none_before : (source : ℕ → ℕ × ℕ) (before : ℕ → Option ℕ) (next : List OutputPort) (bound x : ℕ) (o : Option ℕ) → AreChained source before next → All (IsBelow bound) next → bound ≤ x → before x ≡ o
    → later_by next o ≡ 0
none_before source before next bound x None chained below past is = refl
none_before source before next bound x (Some y) chained below past is =
    let low = next_below next bound y x below (chained.first x y is) in
    let no : ⊥ = omega (arith, low, past) in absurd no
