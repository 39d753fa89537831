-- How much later than its wire each number is.
use Rattle.std.proofs.Common.{◌≡◌, ◌≢◌, ℕ, suc, ◌+◌, ◌<◌, ◌≤◌, Bool, true, false, ◌||◌, List, length, refl, sym, ap, ◌∙◌, arith, get_or-set_same, get_or-set_other, subst, inl, inr, ◌⊎◌}
use Rattle.std.specs.Prelude.{◌==◌, Some, None, slice_set, slice_index_or}
use Rattle.std.proofs.lemmas.Bool.{cases_eq, cases_lt, eq-eqb, eqb-true, or_cases, or_left, or_right, or_parts, false≢true}
use Rattle.std.proofs.lemmas.List.{get_or_past}
use Rattle.std.proofs.lemmas.Option.{same_Some, none-some}
use Rattle.mp_netlist.specs.Circuit.{Circuit, wire_at}
use Rattle.mp_netlist.specs.Limits.{max_delay}
use Rattle.mp_kernel.specs.declared.events.output_port.OutputPort.{OutputPort}
use Rattle.mp_kernel.specs.events.Firing.{copy_at}
use Rattle.mp_active.specs.declared.compare.numbers.Numbers.{Numbers}
use Rattle.mp_active.specs.compare.Comparing.{wire_of, delay_of}
use Rattle.mp_active.specs.compare.Numbering.{AreSources, HasWires, AreNumbered, AreNumbersOf, has_data}
use Rattle.mp_active.proofs.lemmas.compare.ChainLemmas.{AreBehind, all_seen, of_wires, behind_within}

are_behind : (source : ℕ → ℕ × ℕ) (next : List OutputPort) → AreSources source next → AreBehind (length next) (λ x. (copy_at next x).wire) source
are_behind source next are = record {
  inside = λ x y at. behind_within next x y at;
  same = are.same;
  later = λ x y at. let sum = are.delay x y at in let some = are.later x y at in omega arith;
  tied = are.tied;
}

-- the numbers of a wire up to one, from its own on, are noted
pub record IsNoting (source : ℕ → ℕ × ℕ) (next : List OutputPort) (wire number : ℕ) (was is : List ℕ) : Type 0 where
  pub seen : ℕ → Bool
  pub here : seen number ≡ true
  pub first : seen wire ≡ true
  pub on : (x y : ℕ) → seen x ≡ true → x ≢ number → (copy_at next x).wire ≡ Some y → seen y ≡ true
  pub right : (x : ℕ) → seen x ≡ true → (slice_index_or is x 0 ≡ (source x).1) × ((source x).0 ≡ wire)
  pub others : (x : ℕ) → seen x ≡ false → slice_index_or is x 0 ≡ slice_index_or was x 0

pub noting_starts : (source : ℕ → ℕ × ℕ) (next : List OutputPort) (wire : ℕ) (delays : List ℕ) → slice_index_or delays wire 0 ≡ 0 → source wire ≡ (wire, 0) →
    IsNoting source next wire wire delays delays
noting_starts source next wire delays none own = record {
  seen = λ x. x == wire;
  here = eq-eqb wire wire refl;
  first = eq-eqb wire wire refl;
  on = λ x y seen other at. absurd (other (eqb-true x wire seen));
  right = λ x seen. subst (λ y. (slice_index_or delays y 0 ≡ (source y).1) × ((source y).0 ≡ wire)) (sym (eqb-true x wire seen))
      (none ∙ sym (ap (λ (s : ℕ × ℕ). s.1) own), ap (λ (s : ℕ × ℕ). s.0) own);
  others = λ x seen. refl;
}

pub noting_goes_on : (source : ℕ → ℕ × ℕ) (next : List OutputPort) (wire number copy : ℕ) (was is : List ℕ) → AreSources source next → (copy_at next number).wire ≡ Some copy → copy < length is →
    IsNoting source next wire number was is → IsNoting source next wire copy was (slice_set is copy (slice_index_or is number 0 + (copy_at next number).delay))
noting_goes_on source next wire number copy was is are at low noting = record {
  seen = λ x. (x == copy) || noting.seen x;
  here = or_left (copy == copy) (noting.seen copy) (eq-eqb copy copy refl);
  first = or_right (wire == copy) (noting.seen wire) noting.first;
  on = λ x y seen other behind. on_by x y other behind (or_cases (x == copy) (noting.seen x) seen);
  right = λ x seen. right_by x (x == copy) refl seen;
  others = λ x seen. others_by x (or_parts (x == copy) (noting.seen x) seen);
}
  where
    new : List ℕ
    new = slice_set is copy (slice_index_or is number 0 + (copy_at next number).delay)

    on_old : (x y : ℕ) → (copy_at next x).wire ≡ Some y → noting.seen x ≡ true → (x ≡ number) ⊎ (x ≢ number) → ((y == copy) || noting.seen y) ≡ true
    on_old x y behind seen (inl own) = or_left (y == copy) (noting.seen y) (eq-eqb y copy (same_Some y copy (sym behind ∙ ap (λ v. (copy_at next v).wire) own ∙ at)))
    on_old x y behind seen (inr other) = or_right (y == copy) (noting.seen y) (noting.on x y seen other behind)

    on_by : (x y : ℕ) → x ≢ copy → (copy_at next x).wire ≡ Some y → ((x == copy) ≡ true) ⊎ (noting.seen x ≡ true) → ((y == copy) || noting.seen y) ≡ true
    on_by x y other behind (inl own) = absurd (other (eqb-true x copy own))
    on_by x y other behind (inr seen) = on_old x y behind seen (cases_eq x number)

    right_by : (x : ℕ) (own : Bool) → (x == copy) ≡ own → (own || noting.seen x) ≡ true → (slice_index_or new x 0 ≡ (source x).1) × ((source x).0 ≡ wire)
    right_by x true e seen = subst (λ y. (slice_index_or new y 0 ≡ (source y).1) × ((source y).0 ≡ wire)) (sym (eqb-true x copy e)) (
      get_or-set_same is copy (slice_index_or is number 0 + (copy_at next number).delay) 0 low ∙ ap (λ d. d + (copy_at next number).delay) (noting.right number noting.here).0 ∙ sym (are.delay number copy at),
      are.same number copy at ∙ (noting.right number noting.here).1,
    )
    right_by x false e seen = (get_or-set_other is copy x (slice_index_or is number 0 + (copy_at next number).delay) 0 (λ same. false≢true (sym e ∙ eq-eqb x copy same)) ∙ (noting.right x seen).0, (noting.right x seen).1)

    others_by : (x : ℕ) → ((x == copy) ≡ false) × (noting.seen x ≡ false) → slice_index_or new x 0 ≡ slice_index_or was x 0
    others_by x none = get_or-set_other is copy x (slice_index_or is number 0 + (copy_at next number).delay) 0 (λ same. false≢true (sym none.0 ∙ eq-eqb x copy same)) ∙ noting.others x none.1

-- behind the last number all of the wire are noted, and no others
module _ (source : ℕ → ℕ × ℕ) (next : List OutputPort) (wire number : ℕ) (was is : List ℕ) (are : AreSources source next) (over : (copy_at next number).wire ≡ None) (noting : IsNoting source next wire number was is) where
  seen_behind : (x y : ℕ) → noting.seen x ≡ true → (copy_at next x).wire ≡ Some y → noting.seen y ≡ true
  seen_behind x y seen at = elim (cases_eq x number) as (λ _. noting.seen y ≡ true) [
    | inl own ↦ absurd (none-some y (sym over ∙ ap (λ v. (copy_at next v).wire) (sym own) ∙ at))
    | inr other ↦ noting.on x y seen other at
  ]

  pub noted_right : (x : ℕ) → x < length next → (source x).0 ≡ wire → slice_index_or is x 0 ≡ (source x).1
  noted_right x low of =
      (noting.right x (all_seen (length next) (λ v. (copy_at next v).wire) source (are_behind source next are) wire noting.seen noting.first seen_behind (suc (source x).1) x (omega arith) low of)).0

-- how much later the copies are of the wires below one is noted
pub record AreNotedTo (source : ℕ → ℕ × ℕ) (next : List OutputPort) (wires : ℕ) (delays : List ℕ) : Type 0 where
  pub right : (x : ℕ) → x < length next → (source x).0 < wires → slice_index_or delays x 0 ≡ (source x).1
  pub none : (x : ℕ) → wires ≤ (source x).0 → slice_index_or delays x 0 ≡ 0

pub all_noted : (source : ℕ → ℕ × ℕ) (next : List OutputPort) (count wires : ℕ) (delays : List ℕ) → HasWires count source next → count ≤ wires → AreNotedTo source next wires delays →
    (x : ℕ) → x < length next → slice_index_or delays x 0 ≡ (source x).1
all_noted source next count wires delays has end noted x low =
    let below = of_wires (length next) (λ v. (copy_at next v).wire) source (are_behind source next has.sources) count has.first (suc (source x).1) x (omega arith) low in
    noted.right x low (omega arith)

-- the numbers of a netlist
module _ (n : Circuit) (source : ℕ → ℕ × ℕ) (numbers : Numbers) (are : AreNumbered (length n.wires) source numbers.wires.items numbers.next.items) (places : length numbers.delays.items ≡ length numbers.next.items) (right : (x : ℕ) → x < length numbers.next.items → slice_index_or numbers.delays.items x 0 ≡ (source x).1) where
  low_delay : (x : ℕ) → delay_of numbers x ≤ max_delay
  low_delay x = elim (cases_lt x (length numbers.next.items)) as (λ _. delay_of numbers x ≤ max_delay) [
    | inl low ↦ let at = right x low in let few = are.numbers.sources.low x low in omega arith
    | inr past ↦ let none = get_or_past numbers.delays.items x 0 (omega arith) in omega arith
  ]

  pub numbered : (x : ℕ) → x < length numbers.next.items → source x ≡ (wire_of numbers x, delay_of numbers x)
  numbered x low = by (source x) (are.told x low) (right x low)
    where
      by : (s : ℕ × ℕ) → wire_of numbers x ≡ s.0 → delay_of numbers x ≡ s.1 → s ≡ (wire_of numbers x, delay_of numbers x)
      by (w, d) first second = ap (λ v. (v, d)) (sym first) ∙ ap (λ v. (wire_of numbers x, v)) (sym second)

  pub numbers_are : length numbers.have_data.items ≡ length n.wires → ((w : ℕ) → w < length n.wires → slice_index_or numbers.have_data.items w false ≡ has_data (wire_at n w)) → AreNumbersOf n numbers
  numbers_are long data_at = record {
    enough = let a = are.numbers.enough in let b = are.long in omega arith;
    delays = places ∙ sym are.long;
    next = sym are.long;
    have_data = long;
    with_data = data_at;
    wires = λ x low.
        let at = are.told x (let b = are.long in omega arith) in
        let below = of_wires (length numbers.next.items) (λ v. (copy_at numbers.next.items v).wire) source (are_behind source numbers.next.items are.numbers.sources) (length n.wires) are.numbers.first
        (suc (source x).1) x (omega arith) (let b = are.long in omega arith) in
        omega arith;
    own = λ w low.
        let within : w < length numbers.next.items = (let a = are.numbers.enough in omega arith) in
        let own = are.numbers.own w low in (
          are.told w within ∙ ap (λ (s : ℕ × ℕ). s.0) own,
          right w within ∙ ap (λ (s : ℕ × ℕ). s.1) own,
        );
    low = low_delay;
    linked = record {
      same = λ x y at.
          are.told y (are.numbers.sources.within x y at) ∙ are.numbers.sources.same x y at ∙ sym (are.told x (behind_within numbers.next.items x y at));
      later = λ x y at.
          let a = right x (behind_within numbers.next.items x y at) in
          let b = right y (are.numbers.sources.within x y at) in
          let sum = are.numbers.sources.delay x y at in
          let some = are.numbers.sources.later x y at in
          omega arith;
      within = λ x y at. let a = are.numbers.sources.within x y at in let b = are.long in omega arith;
      tied = λ x low other.
          let within : x < length numbers.next.items = (let b = are.long in omega arith) in
          are.numbers.sources.tied x within (λ e. other (e ∙ sym (are.told x within)));
      low = λ x. let few = low_delay x in omega arith;
    };
  }
