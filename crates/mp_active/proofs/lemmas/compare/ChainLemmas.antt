-- The numbers of a wire stand behind one another, from its own number on.
use Rattle.std.proofs.Common.{◌≡◌, ◌≢◌, ℕ, zero, suc, ◌<◌, Bool, true, List, length, sym, ap, ◌∙◌, refl, arith, inl, inr}
use Rattle.std.specs.Prelude.{Option, Some, None}
use Rattle.std.proofs.lemmas.Bool.{cases_eq, cases_lt}
use Rattle.std.proofs.lemmas.List.{get_or_past}
use Rattle.std.proofs.lemmas.Option.{none-some}
use Rattle.mp_kernel.specs.declared.events.output_port.OutputPort.{OutputPort}
use Rattle.mp_kernel.specs.events.Firing.{copy_at, no_port}

-- what stands behind a number is of the same wire, and later; all but the wires' own stand behind another
pub record AreBehind (count : ℕ) (after : ℕ → Option ℕ) (source : ℕ → ℕ × ℕ) : Type 0 where
  pub inside : (x y : ℕ) → after x ≡ Some y → x < count
  pub same : (x y : ℕ) → after x ≡ Some y → (source y).0 ≡ (source x).0
  pub later : (x y : ℕ) → after x ≡ Some y → (source x).1 < (source y).1
  pub tied : (x : ℕ) → x < count → x ≢ (source x).0 → (y : ℕ) × (after y ≡ Some x)

-- where the wire's own number was seen, and all behind those that were, all numbers of the wire were
pub all_seen : (count : ℕ) (after : ℕ → Option ℕ) (source : ℕ → ℕ × ℕ) → AreBehind count after source → (wire : ℕ) (seen : ℕ → Bool) → seen wire ≡ true →
    ((x y : ℕ) → seen x ≡ true → after x ≡ Some y → seen y ≡ true) → (most x : ℕ) → (source x).1 < most → x < count → (source x).0 ≡ wire → seen x ≡ true
all_seen count after source are wire seen first on zero x less low of = absurd (omega arith)
all_seen count after source are wire seen first on (suc most) x less low of = elim (cases_eq x (source x).0) as (λ _. seen x ≡ true) [
  | inl own ↦ ap seen (own ∙ of) ∙ first
  | inr other ↦
      let behind = are.tied x low other in
      let later = are.later behind.0 x behind.1 in
      let inside = are.inside behind.0 x behind.1 in
      on behind.0 x (all_seen count after source are wire seen first on most behind.0 (omega arith) inside (sym (are.same behind.0 x behind.1) ∙ of)) behind.1
]

-- what holds of the wires' own numbers, and goes on to the number behind, holds of all
pub of_wires : (count : ℕ) (after : ℕ → Option ℕ) (source : ℕ → ℕ × ℕ) → AreBehind count after source → (wires : ℕ) → ((x : ℕ) → x < count → x ≡ (source x).0 → x < wires) →
    (most x : ℕ) → (source x).1 < most → x < count → (source x).0 < wires
of_wires count after source are wires first zero x less low = absurd (omega arith)
of_wires count after source are wires first (suc most) x less low = elim (cases_eq x (source x).0) as (λ _. (source x).0 < wires) [
  | inl own ↦ let here = first x low own in omega arith
  | inr other ↦
      let behind = are.tied x low other in
      let later = are.later behind.0 x behind.1 in
      let inside = are.inside behind.0 x behind.1 in
      let same = are.same behind.0 x behind.1 in
      let before = of_wires count after source are wires first most behind.0 (omega arith) inside in
      omega arith
]

-- only a number has one behind it
pub behind_within : (next : List OutputPort) (y x : ℕ) → (copy_at next y).wire ≡ Some x → y < length next
behind_within next y x e = elim (cases_lt y (length next)) as (λ _. y < length next) [
  | inl low ↦ low
  | inr past ↦ absurd (none-some x (sym (ap (λ (p : OutputPort). p.wire) (get_or_past next y no_port past)) ∙ e))
]

pub none_of : (o : Option ℕ) → ((x : ℕ) → o ≡ Some x → ⊥) → o ≡ None
none_of None not = refl
none_of (Some x) not = absurd (not x refl)
