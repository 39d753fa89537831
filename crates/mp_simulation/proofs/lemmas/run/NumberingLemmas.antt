-- The copies of wires of one sort are chained as all copies are.
use Rattle.std.proofs.Common.{◌≡◌, ℕ, ◌+◌, ◌<◌, ◌≤◌, Bool, true, false, cond, List, [], ◌∷◌, ◌++◌, Option, Some, None, All, length, refl, sym, ap, ◌∙◌, arith, subst, inl, inr}
use Rattle.std.specs.Prelude.{slice_index_or}
use Rattle.std.proofs.lemmas.Bool.{cases_eq, cases_lt}
use Rattle.std.proofs.lemmas.List.{get_or_past, get_or_append_left, get_or_push, length_push}
use Rattle.std.proofs.lemmas.List.Elements.{All-from_get_or, All-get_or}
use Rattle.std.proofs.lemmas.Option.{none-some}
use Rattle.mp_kernel.specs.declared.events.output_port.OutputPort.{OutputPort}
use Rattle.mp_kernel.specs.events.Firing.{HasSlot, no_port, copy_at}
use Rattle.mp_simulation.specs.bits.Simulators.{IsBelow}
use Rattle.mp_simulation.specs.bits.Simulations.{IsFrom}
use Rattle.mp_simulation.specs.bits.Copies.{AreChained}
use Rattle.mp_simulation.specs.run.Numbers.{AreOrigins}
use Rattle.mp_simulation.specs.run.Numbering.{AreCopiesOf}

-- ---- one number after the other

abbrev kept_at : (ℕ → Bool) → List ℕ → List OutputPort → ℕ → OutputPort
kept_at is_kept wires next x = cond (is_kept (slice_index_or wires x 0)) (copy_at next x) no_port

pub record AreCopiesBelow (is_kept : ℕ → Bool) (wires : List ℕ) (next : List OutputPort) (x : ℕ) (copies : List OutputPort) : Type 0 where
  pub long : length copies ≡ x
  pub each : (y : ℕ) → y < x → copy_at copies y ≡ kept_at is_kept wires next y

pub copies_more : (is_kept : ℕ → Bool) (wires : List ℕ) (next : List OutputPort) (x : ℕ) (copies new : List OutputPort) (port : OutputPort) → port ≡ kept_at is_kept wires next x →
    AreCopiesBelow is_kept wires next x copies → new ≡ copies ++ port ∷ [] → AreCopiesBelow is_kept wires next (x + 1) new
copies_more is_kept wires next x copies new port is are pushed = record {
  long = ap (length {A = OutputPort}) pushed ∙ length_push copies port ∙ ap (λ k. k + 1) are.long;
  each = λ y low. ap (λ (xs : List OutputPort). copy_at xs y) pushed ∙ elim (cases_eq y x) as (λ _. copy_at (copies ++ port ∷ []) y ≡ kept_at is_kept wires next y) [
    | inl same ↦ get_or_push copies port no_port y (are.long ∙ sym same) ∙ is ∙ ap (kept_at is_kept wires next) (sym same)
    | inr other ↦ let size = are.long in let below : y < x = omega arith in get_or_append_left copies (port ∷ []) no_port y (omega arith) ∙ are.each y below
  ];
}

pub all_copies : (is_kept : ℕ → Bool) (wires : List ℕ) (next : List OutputPort) (x : ℕ) (copies : List OutputPort) → x ≡ length next → AreCopiesBelow is_kept wires next x copies →
    AreCopiesOf is_kept wires next copies
all_copies is_kept wires next x copies all are = record { long = are.long ∙ all; each = λ y low. are.each y (omega arith) }

-- ---- links

no_wire : (next : List OutputPort) (y x : ℕ) → length next ≤ y → (copy_at next y).wire ≡ Some x → ⊥
no_wire next y x past is = none-some x (sym (ap (λ (p : OutputPort). p.wire) (get_or_past next y no_port past)) ∙ is)

within_next : (next : List OutputPort) (y x : ℕ) → (copy_at next y).wire ≡ Some x → y < length next
within_next next y x is = elim (cases_lt y (length next)) as (λ _. y < length next) [
  | inl low ↦ low
  | inr past ↦ absurd (no_wire next y x past is)
]

kept_all : (P : OutputPort → Type 0) (b : Bool) (port : OutputPort) → P port → P no_port → P (cond b port no_port)
kept_all P true port one none = one
kept_all P false port one none = none

module _ (is_kept : ℕ → Bool) (wires : List ℕ) (next copies : List OutputPort) (are : AreCopiesOf is_kept wires next copies) where
  kept_each : (P : OutputPort → Type 0) → P no_port → All P next → All P copies
  kept_each P none all =
      All-from_get_or P copies no_port
      (λ y inside.
      let size = are.long in
      let low : y < length next = omega arith in
      subst P (sym (are.each y low)) (kept_all P (is_kept (slice_index_or wires y 0)) (copy_at next y) (All-get_or P next y no_port low all) none))

  pub kept_slots : (longest : ℕ) → 0 < longest → All (HasSlot longest) next → All (HasSlot longest) copies
  kept_slots longest some all = kept_each (HasSlot longest) (record { some = omega arith; room = omega arith }) all

  pub kept_below : (bound : ℕ) → All (IsBelow bound) next → All (IsBelow bound) copies
  kept_below bound all = kept_each (IsBelow bound) (λ x is. absurd (none-some x is)) all

  pub kept_from : (first : ℕ) → All (IsFrom first) next → All (IsFrom first) copies
  kept_from first all = kept_each (IsFrom first) (λ x is. absurd (none-some x is)) all

  module _ (source : ℕ → ℕ × ℕ) (origins : AreOrigins source (length next) wires) where
    at_number : (y : ℕ) → y < length next → copy_at copies y ≡ cond (is_kept (source y).0) (copy_at next y) no_port
    at_number y low = are.each y low ∙ ap (λ w. cond (is_kept w) (copy_at next y) no_port) (origins.each y low)

    module _ (before : ℕ → Option ℕ) (chained : AreChained source before next) where
      abbrev pub kept_before : ℕ → Option ℕ
      kept_before x = cond (is_kept (source x).0) (before x) None

      kept_if : (y x : ℕ) (b : Bool) → is_kept (source y).0 ≡ b → y < length next → (copy_at copies y).wire ≡ Some x → (is_kept (source y).0 ≡ true) × ((copy_at next y).wire ≡ Some x)
      kept_if y x true test low is = (test, sym (ap (λ (p : OutputPort). p.wire) (at_number y low ∙ ap (λ b. cond b (copy_at next y) no_port) test)) ∙ is)
      kept_if y x false test low is = absurd (none-some x (sym (ap (λ (p : OutputPort). p.wire) (at_number y low ∙ ap (λ b. cond b (copy_at next y) no_port) test)) ∙ is))

      pub old_before : (x y : ℕ) → kept_before x ≡ Some y → (is_kept (source x).0 ≡ true) × (before x ≡ Some y)
      old_before x y is = by (is_kept (source x).0) refl is
        where
          by : (b : Bool) → is_kept (source x).0 ≡ b → cond b (before x) None ≡ Some y → (is_kept (source x).0 ≡ true) × (before x ≡ Some y)
          by true test e = (test, e)
          by false test e = absurd (none-some y e)

      last_kept : (y x : ℕ) → (copy_at copies y).wire ≡ Some x → kept_before x ≡ Some y
      last_kept y x is =
          let size = are.long in
          let inside = within_next copies y x is in
          let low : y < length next = omega arith in
          let kept = kept_if y x (is_kept (source y).0) refl low is in
          let was = chained.last y x kept.1 in
          ap (λ b. cond b (before x) None) (ap is_kept (chained.wire x y was) ∙ kept.0) ∙ was

      port_kept : (x y : ℕ) → kept_before x ≡ Some y → copy_at copies y ≡ copy_at next y
      port_kept x y is =
          let old = old_before x y is in
          let low = within_next next y x (chained.first x y old.1) in
          at_number y low ∙ ap (λ b. cond b (copy_at next y) no_port) (ap is_kept (sym (chained.wire x y old.1)) ∙ old.0)

      pub kept_chained : AreChained source kept_before copies
      kept_chained = record {
        last = last_kept;
        first = λ x y is. ap (λ (p : OutputPort). p.wire) (port_kept x y is) ∙ chained.first x y (old_before x y is).1;
        wire = λ x y is. chained.wire x y (old_before x y is).1;
        delay = λ x y is. chained.delay x y (old_before x y is).1 ∙ ap (λ (p : OutputPort). (source y).1 + p.delay) (sym (port_kept x y is));
        some = λ x y is. subst (λ (p : OutputPort). 0 < p.delay) (sym (port_kept x y is)) (chained.some x y (old_before x y is).1);
      }
