-- One more copy is put into the chain of a wire's copies.
use Rattle.std.proofs.Common.{◌≡◌, ◌≢◌, ℕ, ◌+◌, ◌-◌, ◌<◌, ◌≤◌, Bool, true, false, cond, List, [], ◌∷◌, ◌++◌, Option, Some, None, is_some, Result, Ok, Err, IfOk, OnOk, All, length, refl, sym, ap, ◌∙◌, arith, subst, inl, inr}
use Rattle.std.specs.Prelude.{◌==◌, slice_index_or}
use Rattle.std.proofs.lemmas.Bool.{cases_eq, cases_lt, eq-eqb, ne_eqb}
use Rattle.std.proofs.lemmas.List.{get_or-set_same, get_or-set_other, get_or_append_left, get_or_push, get_or_past, length-set, length_push}
use Rattle.std.proofs.lemmas.List.Elements.{All-from_get_or, All-get_or}
use Rattle.std.proofs.lemmas.Option.{none-some, same_Some}
use Rattle.mp_kernel.specs.declared.events.output_port.OutputPort.{OutputPort}
use Rattle.mp_kernel.specs.events.Firing.{HasSlot, no_port, copy_at}
use Rattle.mp_simulation.specs.bits.Simulators.{IsBelow}
use Rattle.mp_simulation.specs.bits.Copies.{AreChained}
use Rattle.mp_simulation.specs.declared.run.wiring.CopyPlace.{CopyPlace}
use Rattle.mp_simulation.specs.run.Numbers.{AreLinks, AreNumbers, behind_by, behind, inserted, HasRoom, IsPlace, Renumbered, HasNumber}

-- what follows a number that is behind y
abbrev redirected_by : Bool → ℕ → ℕ → Option ℕ
redirected_by true z size = Some size
redirected_by false z size = Some z

abbrev redirected : ℕ → ℕ → Option ℕ → Option ℕ
redirected y size None = None
redirected y size (Some z) = redirected_by (z == y) z size

redirected_own : (y size : ℕ) → redirected y size (Some y) ≡ Some size
redirected_own y size = ap (λ b. redirected_by b y size) (eq-eqb y y refl)

redirected_other : (y size z : ℕ) → z ≢ y → redirected y size (Some z) ≡ Some z
redirected_other y size z other = ap (λ b. redirected_by b z size) (ne_eqb z y other)

redirected_some : (y size : ℕ) (o : Option ℕ) → is_some o ≡ true → is_some (redirected y size o) ≡ true
redirected_some y size None some = cc
redirected_some y size (Some z) some = by (z == y)
  where
    by : (b : Bool) → is_some (redirected_by b z size) ≡ true
    by true = refl
    by false = refl

no_wire : (next : List OutputPort) (y x : ℕ) → length next ≤ y → (copy_at next y).wire ≡ Some x → ⊥
no_wire next y x past is = none-some x (sym (ap (λ (p : OutputPort). p.wire) (get_or_past next y no_port past)) ∙ is)

behind_wire : (port : OutputPort) (later : ℕ) → (behind port later).wire ≡ port.wire
behind_wire port later = by port.wire
  where
    by : (o : Option ℕ) → (behind_by o port.delay later).wire ≡ o
    by None = refl
    by (Some x) = refl

behind_delay : (port : OutputPort) (later x : ℕ) → port.wire ≡ Some x → (behind port later).delay ≡ port.delay - later
behind_delay port later x is = ap (λ (o : Option ℕ). (behind_by o port.delay later).delay) is

module _ (next : List OutputPort) (y d : ℕ) (within : y < length next) (some : 0 < d) (room : HasRoom next y d) where
  new_size : length (inserted next y d) ≡ length next + 1
  new_size = length-set (next ++ behind (copy_at next y) d ∷ []) y (record { wire = Some (length next); delay = d }) ∙ length_push next (behind (copy_at next y) d)

  at_own : copy_at (inserted next y d) y ≡ record { wire = Some (length next); delay = d }
  at_own =
      get_or-set_same (next ++ behind (copy_at next y) d ∷ []) y (record { wire = Some (length next); delay = d }) no_port
      (let long = length_push next (behind (copy_at next y) d) in omega arith)

  at_last : copy_at (inserted next y d) (length next) ≡ behind (copy_at next y) d
  at_last =
      get_or-set_other (next ++ behind (copy_at next y) d ∷ []) y (length next) (record { wire = Some (length next); delay = d }) no_port (λ e. omega arith)
      ∙ get_or_push next (behind (copy_at next y) d) no_port (length next) refl

  at_else : (z : ℕ) → z ≢ y → z ≢ length next → copy_at (inserted next y d) z ≡ copy_at next z
  at_else z other last =
      get_or-set_other (next ++ behind (copy_at next y) d ∷ []) y z (record { wire = Some (length next); delay = d }) no_port other
      ∙ elim (cases_lt z (length next)) as (λ _. slice_index_or (next ++ behind (copy_at next y) d ∷ []) z no_port ≡ copy_at next z) [
        | inl low ↦ get_or_append_left next (behind (copy_at next y) d ∷ []) no_port z low
        | inr past ↦
            get_or_past (next ++ behind (copy_at next y) d ∷ []) z no_port (let long = length_push next (behind (copy_at next y) d) in omega (arith, long, last, past))
            ∙ sym (get_or_past next z no_port past)
      ]

  -- links
  pub links_inserted : (longest : ℕ) → d ≤ longest → AreLinks longest next → AreLinks longest (inserted next y d)
  links_inserted longest low are = record {
    below = All-from_get_or (IsBelow (length (inserted next y d))) (inserted next y d) no_port (λ z inside. below_at z);
    slots = All-from_get_or (HasSlot longest) (inserted next y d) no_port (λ z inside. slot_at z);
  }
    where
      old_below : (z x : ℕ) → (copy_at next z).wire ≡ Some x → x < length next
      old_below z x is = elim (cases_lt z (length next)) as (λ _. x < length next) [
        | inl inside ↦ All-get_or (IsBelow (length next)) next z no_port inside are.below x is
        | inr past ↦ absurd (no_wire next z x past is)
      ]

      old_slot : (z : ℕ) → z < length next → HasSlot longest (copy_at next z)
      old_slot z inside = All-get_or (HasSlot longest) next z no_port inside are.slots

      one : HasSlot longest no_port
      one = record { some = omega arith; room = omega arith }

      below_at : (z : ℕ) → IsBelow (length (inserted next y d)) (copy_at (inserted next y d) z)
      below_at z = elim (cases_eq z y) as (λ _. IsBelow (length (inserted next y d)) (copy_at (inserted next y d) z)) [
        | inl own ↦ λ x is.
            let e : length next ≡ x = same_Some (length next) x (sym (ap (λ (p : OutputPort). p.wire) (ap (copy_at (inserted next y d)) own ∙ at_own)) ∙ is) in
            omega (arith, new_size, e)
        | inr other ↦ elim (cases_eq z (length next)) as (λ _. IsBelow (length (inserted next y d)) (copy_at (inserted next y d) z)) [
          | inl last ↦ λ x is.
              let low = old_below y x (sym (behind_wire (copy_at next y) d) ∙ sym (ap (λ (p : OutputPort). p.wire) (ap (copy_at (inserted next y d)) last ∙ at_last)) ∙ is) in
              omega (arith, new_size, low)
          | inr old ↦ λ x is.
              let low = old_below z x (sym (ap (λ (p : OutputPort). p.wire) (at_else z other old)) ∙ is) in
              omega (arith, new_size, low)
        ]
      ]

      behind_slot : (o : Option ℕ) → (copy_at next y).wire ≡ o → HasSlot longest (behind_by o (copy_at next y).delay d)
      behind_slot None is = record { some = (old_slot y within).some; room = (old_slot y within).room }
      behind_slot (Some x) is =
          let more = room x is in
          let was = (old_slot y within).room in
          record { some = omega arith; room = omega arith }

      slot_at : (z : ℕ) → HasSlot longest (copy_at (inserted next y d) z)
      slot_at z = elim (cases_eq z y) as (λ _. HasSlot longest (copy_at (inserted next y d) z)) [
        | inl own ↦ subst (HasSlot longest) (sym (ap (copy_at (inserted next y d)) own ∙ at_own)) (record { some = some; room = low })
        | inr other ↦ elim (cases_eq z (length next)) as (λ _. HasSlot longest (copy_at (inserted next y d) z)) [
          | inl last ↦ subst (HasSlot longest) (sym (ap (copy_at (inserted next y d)) last ∙ at_last)) (behind_slot (copy_at next y).wire refl)
          | inr old ↦ subst (HasSlot longest) (sym (at_else z other old)) (elim (cases_lt z (length next)) as (λ _. HasSlot longest (copy_at next z)) [
            | inl inside ↦ old_slot z inside
            | inr past ↦
                let was = old_slot y within in
                subst (HasSlot longest) (sym (get_or_past next z no_port past)) (record { some = omega arith; room = let a = was.some in let b = was.room in omega (arith, a, b) })
          ])
        ]
      ]

  module _ (source : ℕ → ℕ × ℕ) (before : ℕ → Option ℕ) (chained : AreChained source before next) (below : All (IsBelow (length next)) next) where
    abbrev pub new_source : ℕ → ℕ × ℕ
    new_source x = cond (x == length next) ((source y).0, (source y).1 + d) (source x)

    abbrev pub new_before : ℕ → Option ℕ
    new_before x = cond (x == length next) (Some y) (redirected y (length next) (before x))

    source_last : new_source (length next) ≡ ((source y).0, (source y).1 + d)
    source_last = ap (λ b. cond b ((source y).0, (source y).1 + d) (source (length next))) (eq-eqb (length next) (length next) refl)

    source_else : (x : ℕ) → x ≢ length next → new_source x ≡ source x
    source_else x other = ap (λ b. cond b ((source y).0, (source y).1 + d) (source x)) (ne_eqb x (length next) other)

    before_last : new_before (length next) ≡ Some y
    before_last = ap (λ b. cond b (Some y) (redirected y (length next) (before (length next)))) (eq-eqb (length next) (length next) refl)

    before_else : (x : ℕ) → x ≢ length next → new_before x ≡ redirected y (length next) (before x)
    before_else x other = ap (λ b. cond b (Some y) (redirected y (length next) (before x))) (ne_eqb x (length next) other)

    low_number : (z x : ℕ) → (copy_at next z).wire ≡ Some x → x < length next
    low_number z x is = elim (cases_lt z (length next)) as (λ _. x < length next) [
      | inl inside ↦ All-get_or (IsBelow (length next)) next z no_port inside below x is
      | inr past ↦ absurd (no_wire next z x past is)
    ]

    not_last : (z x : ℕ) → (copy_at next z).wire ≡ Some x → x ≢ length next
    not_last z x is e = let low = low_number z x is in omega arith

    not_after_last : (x : ℕ) → before x ≡ Some (length next) → ⊥
    not_after_last x is = no_wire next (length next) x (omega arith) (chained.first x (length next) is)

    -- what a number stands after now
    data Stands (x z : ℕ) : Type 0 where
      own : x ≡ length next → z ≡ y → Stands x z
      moved : x ≢ length next → z ≡ length next → before x ≡ Some y → Stands x z
      kept : x ≢ length next → z ≢ length next → z ≢ y → before x ≡ Some z → Stands x z

    stands_old : (x z : ℕ) (o : Option ℕ) → x ≢ length next → before x ≡ o → redirected y (length next) o ≡ Some z → Stands x z
    stands_old x z None other is now = absurd (none-some z now)
    stands_old x z (Some v) other is now = elim (cases_eq v y) as (λ _. Stands x z) [
      | inl same ↦
          let size_is : Some (length next) ≡ Some z = sym (ap (redirected y (length next)) (ap (λ k. Some k) same) ∙ redirected_own y (length next)) ∙ now in
          moved other (sym (same_Some (length next) z size_is)) (is ∙ ap (λ k. Some k) same)
      | inr differs ↦
          let e : v ≡ z = same_Some v z (sym (redirected_other y (length next) v differs) ∙ now) in
          let was : before x ≡ Some z = is ∙ ap (λ k. Some k) e in
          kept other (λ last. not_after_last x (was ∙ ap (λ k. Some k) last)) (λ same. differs (e ∙ same)) was
    ]

    stands : (x z : ℕ) → new_before x ≡ Some z → Stands x z
    stands x z is = elim (cases_eq x (length next)) as (λ _. Stands x z) [
      | inl last ↦ own last (sym (same_Some y z (sym before_last ∙ ap new_before (sym last) ∙ is)))
      | inr other ↦ stands_old x z (before x) other refl (sym (before_else x other) ∙ is)
    ]

    own_not_last : y ≢ length next
    own_not_last e = omega arith

    last_at : (z x : ℕ) → (copy_at (inserted next y d) z).wire ≡ Some x → new_before x ≡ Some z
    last_at z x is = elim (cases_eq z y) as (λ _. new_before x ≡ Some z) [
      | inl same ↦
          let e : length next ≡ x = same_Some (length next) x (sym (ap (λ (p : OutputPort). p.wire) (ap (copy_at (inserted next y d)) same ∙ at_own)) ∙ is) in
          ap new_before (sym e) ∙ before_last ∙ ap (λ k. Some k) (sym same)
      | inr other ↦ elim (cases_eq z (length next)) as (λ _. new_before x ≡ Some z) [
        | inl last ↦
            let was : (copy_at next y).wire ≡ Some x = sym (behind_wire (copy_at next y) d) ∙ sym (ap (λ (p : OutputPort). p.wire) (ap (copy_at (inserted next y d)) last ∙ at_last)) ∙ is in
            before_else x (not_last y x was) ∙ ap (redirected y (length next)) (chained.last y x was) ∙ redirected_own y (length next) ∙ ap (λ k. Some k) (sym last)
        | inr old ↦
            let was : (copy_at next z).wire ≡ Some x = sym (ap (λ (p : OutputPort). p.wire) (at_else z other old)) ∙ is in
            before_else x (not_last z x was) ∙ ap (redirected y (length next)) (chained.last z x was) ∙ redirected_other y (length next) z other
      ]
    ]

    first_at : (x z : ℕ) → Stands x z → (copy_at (inserted next y d) z).wire ≡ Some x
    first_at x z (own last same) = ap (λ (p : OutputPort). p.wire) (ap (copy_at (inserted next y d)) same ∙ at_own) ∙ ap (λ k. Some k) (sym last)
    first_at x z (moved other last was) =
        ap (λ (p : OutputPort). p.wire) (ap (copy_at (inserted next y d)) last ∙ at_last) ∙ behind_wire (copy_at next y) d ∙ chained.first x y was
    first_at x z (kept other last differs was) = ap (λ (p : OutputPort). p.wire) (at_else z differs last) ∙ chained.first x z was

    wire_at : (x z : ℕ) → Stands x z → (new_source x).0 ≡ (new_source z).0
    wire_at x z (own last same) =
        ap (λ (s : ℕ × ℕ). s.0) (ap new_source last ∙ source_last) ∙ ap (λ (s : ℕ × ℕ). s.0) (sym (source_else y own_not_last)) ∙ ap (λ k. (new_source k).0) (sym same)
    wire_at x z (moved other last was) =
        ap (λ (s : ℕ × ℕ). s.0) (source_else x other) ∙ chained.wire x y was ∙ sym (ap (λ (s : ℕ × ℕ). s.0) (ap new_source last ∙ source_last))
    wire_at x z (kept other last differs was) =
        ap (λ (s : ℕ × ℕ). s.0) (source_else x other) ∙ chained.wire x z was ∙ sym (ap (λ (s : ℕ × ℕ). s.0) (source_else z last))

    delay_at : (x z : ℕ) → Stands x z → (new_source x).1 ≡ (new_source z).1 + (copy_at (inserted next y d) z).delay
    delay_at x z (own last same) =
        let left = ap (λ (s : ℕ × ℕ). s.1) (ap new_source last ∙ source_last) in
        let right = ap (λ (s : ℕ × ℕ). s.1) (ap new_source same ∙ source_else y own_not_last) in
        let step = ap (λ (p : OutputPort). p.delay) (ap (copy_at (inserted next y d)) same ∙ at_own) in
        omega arith
    delay_at x z (moved other last was) =
        let left = ap (λ (s : ℕ × ℕ). s.1) (source_else x other) in
        let right = ap (λ (s : ℕ × ℕ). s.1) (ap new_source last ∙ source_last) in
        let first = chained.first x y was in
        let step = ap (λ (p : OutputPort). p.delay) (ap (copy_at (inserted next y d)) last ∙ at_last) ∙ behind_delay (copy_at next y) d x first in
        let long = room x first in
        let sum = chained.delay x y was in
        omega arith
    delay_at x z (kept other last differs was) =
        let left = ap (λ (s : ℕ × ℕ). s.1) (source_else x other) in
        let right = ap (λ (s : ℕ × ℕ). s.1) (source_else z last) in
        let step = ap (λ (p : OutputPort). p.delay) (at_else z differs last) in
        let sum = chained.delay x z was in
        omega arith

    some_at : (x z : ℕ) → Stands x z → 0 < (copy_at (inserted next y d) z).delay
    some_at x z (own last same) =
        let step = ap (λ (p : OutputPort). p.delay) (ap (copy_at (inserted next y d)) same ∙ at_own) in
        omega arith
    some_at x z (moved other last was) =
        let first = chained.first x y was in
        let step = ap (λ (p : OutputPort). p.delay) (ap (copy_at (inserted next y d)) last ∙ at_last) ∙ behind_delay (copy_at next y) d x first in
        let long = room x first in
        omega arith
    some_at x z (kept other last differs was) =
        let step = ap (λ (p : OutputPort). p.delay) (at_else z differs last) in
        let old = chained.some x z was in
        omega arith

    pub chained_inserted : AreChained new_source new_before (inserted next y d)
    chained_inserted = record {
      last = last_at;
      first = λ x z is. first_at x z (stands x z is);
      wire = λ x z is. wire_at x z (stands x z is);
      delay = λ x z is. delay_at x z (stands x z is);
      some = λ x z is. some_at x z (stands x z is);
    }

  pub numbers_inserted : (wires : ℕ) (wanted : ℕ × ℕ) (source : ℕ → ℕ × ℕ) (before : ℕ → Option ℕ) → All (IsBelow (length next)) next → AreNumbers wires source before next →
      (source y).0 ≡ wanted.0 → (source y).1 + d ≡ wanted.1 → Renumbered wires wanted source (length next) (length next) (inserted next y d)
  numbers_inserted wires wanted source before below are wire delay = record {
    source = new_source source before are.chained below;
    before = new_before source before are.chained below;
    are = record {
      chained = chained_inserted source before are.chained below;
      enough = let a = are.enough in omega (arith, a, new_size);
      own = λ w low. source_else source before are.chained below w (λ e. let a = are.enough in omega arith) ∙ are.own w low;
      first = λ w low. before_else source before are.chained below w (λ e. let a = are.enough in omega arith) ∙ ap (redirected y (length next)) (are.first w low);
      tied = λ x high inside. elim (cases_eq x (length next)) as (λ _. is_some (new_before source before are.chained below x) ≡ true) [
        | inl last ↦ ap is_some (ap (new_before source before are.chained below) last ∙ before_last source before are.chained below)
        | inr other ↦
            ap is_some (before_else source before are.chained below x other)
            ∙ redirected_some y (length next) (before x) (are.tied x high (omega (arith, inside, other, new_size)))
      ];
    };
    same = λ x low. source_else source before are.chained below x (λ e. omega arith);
    is = source_last source before are.chained below ∙ ap (λ k. (k, (source y).1 + d)) wire ∙ ap (λ k. (wanted.0, k)) delay;
  }

-- the number of an input that wants a copy that isn't there
pub number_added : (wanted : ℕ × ℕ) (next new : List OutputPort) (place : CopyPlace) → IsPlace next wanted.0 wanted.1 place → place.later ≢ 0 → AreLinks 65535 next →
    new ≡ inserted next place.number place.later → HasNumber wanted next new (length next)
number_added wanted next new place is later links new_is =
    let some : 0 < place.later = omega arith in
    let long : length new ≡ length next + 1 = ap (length {A = OutputPort}) new_is ∙ new_size next place.number place.later is.within some is.room in
    record {
      within = omega arith;
      longer = omega arith;
      few = omega arith;
      known = λ low. absurd (omega arith);
      links = λ longest low are.
          subst (λ (xs : List OutputPort). AreLinks longest xs) (sym new_is)
          (links_inserted next place.number place.later is.within some is.room longest (let a = is.low in omega arith) are);
      numbers = λ wires source before low are.
          let own = are.own wanted.0 low in
          subst (λ (xs : List OutputPort). Renumbered wires wanted source (length next) (length next) xs) (sym new_is)
          (numbers_inserted next place.number place.later is.within some is.room wires wanted source before links.below are
          (is.same_wire source before are.chained ∙ ap (λ (s : ℕ × ℕ). s.0) own)
          (is.sum source before are.chained ∙ ap (λ k. k + wanted.1) (ap (λ (s : ℕ × ℕ). s.1) own) ∙ plus_none 0 wanted.1 refl));
    }
  where
    plus_none : (a b : ℕ) → a ≡ 0 → a + b ≡ b
    plus_none a b none = omega arith

-- what holds of the size holds of the number that is given
pub if_added : {E : Type 0} (r : Result ℕ E) (size : ℕ) (A : Type 0) (P : ℕ → Type 0) → IfOk r (λ k. k ≡ size) → OnOk r A → (A → P size) → IfOk r P
if_added (Ok k) size A P number holds then = subst P (sym number) (then holds)
if_added (Err e) size A P number holds then = tt
