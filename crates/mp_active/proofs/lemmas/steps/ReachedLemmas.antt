-- Which copies of a wire are reached one after the other.
use Rattle.std.proofs.Common.{◌≡◌, ℕ, suc, zero, ◌+◌, ◌<◌, Bool, true, false, List, [], ◌∷◌, Option, Some, None, refl, ap, sym, ◌∙◌, arith, inl, inr}
use Rattle.std.specs.Prelude.{◌==◌, ◌||◌}
use Rattle.std.proofs.lemmas.Bool.{cases_Bool, cases_lt, eqb-true, eq-eqb, or_cases, or_parts, both_ways}
use Rattle.std.proofs.lemmas.Option.{none-some, same_Some}
use Rattle.mp_kernel.specs.declared.events.output_port.OutputPort.{OutputPort}
use Rattle.mp_kernel.specs.events.Firing.{copy_at}
use Rattle.mp_simulation.specs.bits.Copies.{AreChained}
use Rattle.mp_active.specs.declared.steps.copying.Copied.{Copied}
use Rattle.mp_active.specs.steps.Chains.{AreBehind}

-- the number is one of these copies
abbrev pub is_among : ℕ → List Copied → Bool
is_among x [] = false
is_among x (copy ∷ copies) = (copy.number == x) || is_among x copies

-- the number is a copy of the wire, later than so much
pub record IsLater (source : ℕ → ℕ × ℕ) (w late x : ℕ) : Type 0 where
  pub wire : (source x).0 ≡ w
  pub later : late < (source x).1

pair_is : (p : ℕ × ℕ) (a b : ℕ) → p.0 ≡ a → p.1 ≡ b → p ≡ (a, b)
pair_is p a b first second = ap (λ (x : ℕ). (let q : ℕ × ℕ = (x, p.1) in q)) first ∙ ap (λ (y : ℕ). (let q : ℕ × ℕ = (a, y) in q)) second

module _ (source : ℕ → ℕ × ℕ) (before : ℕ → Option ℕ) (next : List OutputPort) (chained : AreChained source before next) (w now : ℕ) where
  -- a copy that stands next after a number of the wire is so much later than the wire
  pub next_is : (y late : ℕ) (copy : Copied) → source y ≡ (w, late) → (copy_at next y).wire ≡ Some copy.number → copy.delay ≡ late + (copy_at next y).delay → source copy.number ≡ (w, copy.delay)
  next_is y late copy at after much =
      let from = chained.last y copy.number after in
      pair_is (source copy.number) w copy.delay (chained.wire copy.number y from ∙ ap (λ (p : ℕ × ℕ). p.0) at)
      (chained.delay copy.number y from ∙ ap (λ (p : ℕ × ℕ). p.1 + (copy_at next y).delay) at ∙ sym much)

  pub next_later : (y late : ℕ) (copy : Copied) → (copy_at next y).wire ≡ Some copy.number → copy.delay ≡ late + (copy_at next y).delay → late < copy.delay
  next_later y late copy after much = let some = chained.some copy.number y (chained.last y copy.number after) in omega (arith, much, some)

  -- what is reached is later
  pub among_later : (copies : List Copied) (y late x : ℕ) → source y ≡ (w, late) → AreBehind next now y late copies → is_among x copies ≡ true → IsLater source w late x
  among_later [] y late x at behind is = let no : ⊥ = cc in absurd no
  among_later (copy ∷ copies) y late x at behind is =
      let own = next_is y late copy at behind.1 behind.3 in
      let more = next_later y late copy behind.1 behind.3 in
      elim (or_cases (copy.number == x) (is_among x copies) is) as (λ _. IsLater source w late x) [
        | inl here ↦
            let same : source x ≡ (w, copy.delay) = ap source (sym (eqb-true copy.number x here)) ∙ own in
            let far : (source x).1 ≡ copy.delay = ap (λ (p : ℕ × ℕ). p.1) same in
            record { wire = ap (λ (p : ℕ × ℕ). p.0) same; later = omega (arith, far, more) }
        | inr there ↦
            let rest = among_later copies copy.number copy.delay x own behind.4 there in
            let later = rest.later in
            record { wire = rest.wire; later = omega (arith, later, more) }
      ]

  -- behind the last that is reached nothing has come yet
  last_by : (copies : List Copied) (y late x : ℕ) → AreBehind next now y late copies → (copy_at next y).wire ≡ Some x → is_among x copies ≡ false → now < late
  last_by [] y late x behind after none = elim (cases_lt now late) as (λ _. now < late) [
    | inl low ↦ low
    | inr high ↦ absurd (none-some x (sym (behind high) ∙ after))
  ]
  last_by (copy ∷ copies) y late x behind after none =
      let same = same_Some copy.number x (sym behind.1 ∙ after) in
      absurd (both_ways (copy.number == x) (or_parts (copy.number == x) (is_among x copies) none).0 (eq-eqb copy.number x same))

  pub last_among : (copies : List Copied) (u late y x : ℕ) → source u ≡ (w, late) → AreBehind next now u late copies → is_among y copies ≡ true → (copy_at next y).wire ≡ Some x →
      is_among x copies ≡ false → now < (source y).1
  last_among [] u late y x at behind is after none = let no : ⊥ = cc in absurd no
  last_among (copy ∷ copies) u late y x at behind is after none =
      let own = next_is u late copy at behind.1 behind.3 in
      let rest = (or_parts (copy.number == x) (is_among x copies) none).1 in
      elim (or_cases (copy.number == y) (is_among y copies) is) as (λ _. now < (source y).1) [
        | inl here ↦
            let same : copy.number ≡ y = eqb-true copy.number y here in
            let far : (source y).1 ≡ copy.delay = ap (λ (v : ℕ). (source v).1) (sym same) ∙ ap (λ (p : ℕ × ℕ). p.1) own in
            let late = last_by copies copy.number copy.delay x behind.4 (ap (λ (v : ℕ). (copy_at next v).wire) same ∙ after) rest in
            omega (arith, far, late)
        | inr there ↦ last_among copies copy.number copy.delay y x own behind.4 there after rest
      ]

  -- so what isn't reached stands after a number that nothing has come to yet
  module _ (copies : List Copied) (at : source w ≡ (w, 0)) (behind : AreBehind next now w 0 copies) (root : (x y : ℕ) → before x ≡ Some y → (source y).0 ≡ w → before y ≡ None → y ≡ w) where
    reached_by : (x y : ℕ) (o : Option ℕ) → before y ≡ o → (source x).0 ≡ w → before x ≡ Some y → is_among x copies ≡ false →
        ((z : ℕ) → before y ≡ Some z → (source y).0 ≡ w → is_among y copies ≡ false → now < (source z).1) → now < (source y).1
    reached_by x y None first wire is none rest =
        let same : y ≡ w = root x y is (sym (chained.wire x y is) ∙ wire) first in
        let never = last_by copies w 0 x behind (ap (λ (v : ℕ). (copy_at next v).wire) (sym same) ∙ chained.first x y is) none in
        let no : ⊥ = omega (arith, never) in absurd no
    reached_by x y (Some z) then wire is none rest = elim (cases_Bool (is_among y copies)) as (λ _. now < (source y).1) [
      | inl reached ↦ last_among copies w 0 y x at behind reached (chained.first x y is) none
      | inr beyond ↦
          let farther = chained.delay y z then in
          let late = rest z then (sym (chained.wire x y is) ∙ wire) beyond in
          omega (arith, late, farther)
    ]

    pub not_reached : (bound x y : ℕ) → (source x).1 < bound → (source x).0 ≡ w → before x ≡ Some y → is_among x copies ≡ false → now < (source y).1
    not_reached zero x y low wire is none = let no : ⊥ = omega (arith, low) in absurd no
    not_reached (suc bound) x y low wire is none =
        let far = chained.delay x y is in
        let some = chained.some x y is in
        let sooner : (source y).1 < bound = omega (arith, low, far, some) in
        reached_by x y (before y) refl wire is none (λ z then own beyond. not_reached bound y z sooner own then beyond)
