-- The numbers of a netlist at first: which wire each is of, and how much later.
use Rattle.std.proofs.Common.{◌≡◌, ℕ, zero, suc, ◌<◌, ◌≤◌, true, List, Option, Some, None, is_some, All, length, refl, ap, sym, arith, inl, inr}
use Rattle.std.proofs.lemmas.Bool.{cases_lt}
use Rattle.mp_records.specs.declared.ports.Input.{Input}
use Rattle.mp_netlist.specs.Limits.{max_delay}
use Rattle.mp_kernel.specs.declared.events.output_port.OutputPort.{OutputPort}
use Rattle.mp_kernel.specs.events.Firing.{copy_at}
use Rattle.mp_simulation.specs.declared.run.wiring.Wiring.{Wiring}
use Rattle.mp_simulation.specs.run.Numbers.{AreLinks}
use Rattle.mp_simulation.specs.run.Wirings.{AreWired}
use Rattle.mp_active.proofs.lemmas.excerpt.CopyLemmas.{next_inside, next_below}
use Rattle.mp_active.specs.compare.Numbering.{AreSources, AreNumbered}

module _ (wires places : ℕ) (reading : ℕ → List Input) (inputs : ℕ → List ℕ) (wiring : Wiring) (are : AreWired wires places reading inputs wiring)
    (links : AreLinks max_delay wiring.next.items) (delays : (q : ℕ) → All (λ (i : Input). i.delay ≤ max_delay) (reading q)) where
  abbrev next : List OutputPort
  next = wiring.next.items

  -- what a number stands after
  before_is : (x y : ℕ) → (copy_at next x).wire ≡ Some y → are.before y ≡ Some x
  before_is x y is = are.numbers.chained.last x y is

  some_before : (x : ℕ) (o : Option ℕ) → are.before x ≡ o → is_some (are.before x) ≡ true → (y : ℕ) × (are.before x ≡ Some y)
  some_before x None none some = let no : ⊥ = cc in absurd no
  some_before x (Some y) is some = (y, is)

  -- a number behind those of the wires stands after another
  tied : (x : ℕ) → wires ≤ x → x < length next → (y : ℕ) × (are.before x ≡ Some y)
  tied x past within = some_before x (are.before x) refl (are.numbers.tied x past within)

  -- each number is of a wire
  of_wire : (fuel x : ℕ) → (are.source x).1 < fuel → x < length next → (are.source x).0 < wires
  of_wire zero x few within = absurd (omega (arith, few))
  of_wire (suc fuel) x few within = elim (cases_lt x wires) as (λ _. (are.source x).0 < wires) [
    | inl low ↦ let own = ap {B = ℕ} (λ (v : ℕ × ℕ). v.0) (are.numbers.own x low) in omega (arith, own, low)
    | inr past ↦
        let other = tied x past within in
        let y = other.0 in
        let wire = are.numbers.chained.wire x y other.1 in
        let delay = are.numbers.chained.delay x y other.1 in
        let some = are.numbers.chained.some x y other.1 in
        let rest = of_wire fuel y (omega (arith, few, delay, some)) (next_inside next y x (are.numbers.chained.first x y other.1)) in
        omega (arith, wire, rest)
  ]

  sources : AreSources are.source next
  sources = record {
    within = λ x y is. next_below next (length next) x y links.below is;
    same = λ x y is. are.numbers.chained.wire y x (before_is x y is);
    delay = λ x y is. are.numbers.chained.delay y x (before_is x y is);
    later = λ x y is. are.numbers.chained.some y x (before_is x y is);
    tied = λ x within other. elim (cases_lt x wires) as (λ _. (y : ℕ) × ((copy_at next y).wire ≡ Some x)) [
      | inl low ↦ absurd (other (sym (ap {B = ℕ} (λ (v : ℕ × ℕ). v.0) (are.numbers.own x low))))
      | inr past ↦ let found = tied x past within in (found.0, are.numbers.chained.first x found.0 found.1)
    ];
    low = λ x within. are.late max_delay delays x within;
  }

  pub numbered : AreNumbered wires are.source wiring.wires.items next
  numbered = record {
    numbers = record {
      sources = sources;
      enough = are.numbers.enough;
      own = are.numbers.own;
      first = λ x within same. let low = of_wire (suc ((are.source x).1)) x (omega arith) within in omega (arith, same, low);
    };
    long = are.origins.long;
    told = are.origins.each;
  }
