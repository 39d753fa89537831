-- The slots and the stimuli have all that changes in a unit.
use Rattle.std.proofs.Common.{◌≡◌, ℕ, ◌+◌, ◌-◌, ◌<◌, ◌≤◌, ◌⊎◌, inl, inr, Bool, true, false, cond, List, ◌∷◌, ◌++◌, Option, Some, None, length, nat_lt, refl, sym, ap, ◌∙◌, arith}
use Rattle.std.specs.Prelude.{◌&&◌, ◌||◌, slice_index_or, is_some}
use Rattle.std.proofs.lemmas.Bool.Decides.{nat_tests}
use Rattle.mp_modules.specs.Quiet.{unchanged}
use Rattle.mp_records.specs.Outputs.{delay_of}
use Rattle.mp_netlist.specs.declared.driver.Driver.{Driver}
use Rattle.mp_netlist.specs.declared.driver.Driver.TheVariants.{Nothing, Stimulus, Port}
use Rattle.mp_netlist.specs.Circuit.{Circuit, IsCircuit, wire_at}
use Rattle.mp_netlist.specs.Drivers.{driver}
use Rattle.mp_netlist.proofs.DriverLemmas.{finds_only_ports}
use Rattle.mp_model.specs.Evaluations.{delay_in}
use Rattle.mp_model.specs.Levels.{initial_of, driven_level}
use Rattle.mp_model.specs.Waves.{level, state}
use Rattle.mp_model.proofs.BehaviourLemmas.{satisfies}
use Rattle.mp_modules.specs.automata.Codes.{bit}
use Rattle.mp_kernel.specs.declared.events.output_port.OutputPort.{OutputPort}
use Rattle.mp_kernel.specs.events.Adding.{listed}
use Rattle.mp_kernel.specs.events.Firing.{copy_at}
use Rattle.mp_simulation.specs.declared.bits.simulator.Simulator.{Simulator}
use Rattle.mp_simulation.specs.bits.Changes.{change_at, late_change, is_decided}
use Rattle.mp_simulation.specs.bits.Scopes.{Scope, is_expected}
use Rattle.mp_simulation.specs.bits.Simulators.{next_slot}
use Rattle.mp_simulation.specs.bits.Units.{IsBefore}
use Rattle.mp_simulation.specs.bits.Copies.{AreChained, later_by, HaveCopies}
use Rattle.mp_simulation.specs.bits.WholeRuns.{is_number, IsWhole, is_stimulus, AreSet, IsAll, SlotsHaveAll}
use Rattle.mp_simulation.proofs.lemmas.bits.ListedLemmas.{listed_append}

-- a wire that nothing drives never changes
pub undriven : (n : Circuit) → IsCircuit n → (w u : ℕ) → driver n w ≡ Nothing → change_at n w u ≡ false
undriven n ok w u none =
    let at : (k : ℕ) → level n w k ≡ initial_of (wire_at n w) = λ k. (satisfies n ok).levels w k ∙ ap (λ (d : Driver). driven_level d n (state n) w k) none in
    rw (at (u - 1), at u) (unchanged (initial_of (wire_at n w)))

first_bit : (c : Bool) → bit (c && true && true) + bit (c && false && true) ≡ bit (c && true)
first_bit true = refl
first_bit false = refl

second_bit : (c : Bool) → bit (c && false && true) + bit (c && true && true) ≡ bit (c && true)
second_bit true = refl
second_bit false = refl

no_bits : (c d s : Bool) → bit (c && d && false) + bit (c && s && false) ≡ bit (c && false)
no_bits true true true = refl
no_bits true true false = refl
no_bits true false true = refl
no_bits true false false = refl
no_bits false d s = refl

copy_bit : (c l : Bool) → bit (c && false) + bit (l && true) ≡ bit l
copy_bit true true = refl
copy_bit true false = refl
copy_bit false true = refl
copy_bit false false = refl

wire_bit : (c : Bool) → bit (c && true) + bit (c && false) ≡ bit c
wire_bit true = refl
wire_bit false = refl

few_copy : (c l p : Bool) → bit (c && false) + bit (l && p) ≤ 1
few_copy true true true = omega arith
few_copy true true false = omega arith
few_copy true false p = omega arith
few_copy false true true = omega arith
few_copy false true false = omega arith
few_copy false false p = omega arith

few_wire : (c t l : Bool) → bit (c && t) + bit (l && nat_lt 0 0) ≤ 1
few_wire true true true = omega arith
few_wire true true false = omega arith
few_wire true false true = omega arith
few_wire true false false = omega arith
few_wire false t true = omega arith
few_wire false t false = omega arith

false_is_true : false ≡ true → ⊥
false_is_true e = cc

both_tests : (b : Bool) → b ≡ true → b ≡ false → ⊥
both_tests true is other = cc
both_tests false is other = cc

-- by the slot, by the stimuli
two_bits : (c d o s t : Bool) → t ≡ true → o ≡ true → (c ≡ false) ⊎ (((d ≡ true) × (s ≡ false)) ⊎ ((d ≡ false) × (s ≡ true))) →
    bit (c && d && o) + bit (c && s && t) ≡ bit (c && t)
two_bits c d o s t traced owned (inl none) = rw none refl
two_bits c d o s t traced owned (inr (inl is)) = rw (traced, owned, is.0, is.1) (first_bit c)
two_bits c d o s t traced owned (inr (inr is)) = rw (traced, owned, is.0, is.1) (second_bit c)

none_of : (c d o s t : Bool) → t ≡ false → o ≡ false → bit (c && d && o) + bit (c && s && t) ≡ bit (c && t)
none_of c d o s t other owned = rw (other, owned) (no_bits c d s)

at_once : (n : Circuit) (w t : ℕ) → late_change n (w, 0) (t + 1) ≡ change_at n w (t + 1)
at_once n w t =
    let test : nat_lt 0 (t + 1) ≡ true = grind (arith, nat_tests) in
    let time : t + 1 - 0 ≡ t + 1 = omega arith in
    ap (λ b. cond b (change_at n w (t + 1 - 0)) false) test ∙ ap (change_at n w) time

module _ (n : Circuit) (ok : IsCircuit n) (scope : Scope) (before : ℕ → Option ℕ) (next : List OutputPort) (t : ℕ) (s : Simulator) (set slot : List ℕ) (rest : List (List ℕ))
    (is : IsBefore n scope t s) (some : 0 < length s.wheel) (whole : IsWhole n scope before t) (sets : AreSet n scope set (t + 1)) (chained : AreChained scope.source before next)
    (have : HaveCopies n scope.source before next t (slot ∷ rest)) where
  known_by : (w : ℕ) (d : Driver) → driver n w ≡ d → scope.traces w ≡ true →
      (change_at n w (t + 1) ≡ false) ⊎
      (((is_decided n scope.known d (t + 1) ≡ true) × (is_stimulus d ≡ false)) ⊎ ((is_decided n scope.known d (t + 1) ≡ false) × (is_stimulus d ≡ true)))
  known_by w Nothing drives traced = inl (undriven n ok w (t + 1) drives)
  known_by w Stimulus drives traced = inr (inr (refl, refl))
  known_by w (Port m p) drives traced =
      let drv = finds_only_ports n w p m drives in
      let late = whole.arrived w p m drv.part drives drv.stands traced in
      let test : nat_lt (t + 1) (scope.known m.0 + delay_of drv.part p) ≡ true = grind (arith, nat_tests) in
      inr (inl (ap (λ o. nat_lt (t + 1) (scope.known m.0 + delay_in o p)) drv.stands ∙ test, refl))

  sum_when : (w : ℕ) (traced : Bool) → scope.traces w ≡ traced →
      bit (change_at n w (t + 1) && is_decided n scope.known (driver n w) (t + 1) && scope.owns w (t + 1)) + bit (change_at n w (t + 1) && is_stimulus (driver n w) && scope.traces w) ≡
      bit (change_at n w (t + 1) && scope.traces w)
  sum_when w true traced =
      two_bits (change_at n w (t + 1)) (is_decided n scope.known (driver n w) (t + 1)) (scope.owns w (t + 1)) (is_stimulus (driver n w)) (scope.traces w) traced (whole.own w traced)
      (known_by w (driver n w) refl traced)
  sum_when w false traced =
      none_of (change_at n w (t + 1)) (is_decided n scope.known (driver n w) (t + 1)) (scope.owns w (t + 1)) (is_stimulus (driver n w)) (scope.traces w) traced (whole.other w traced)

  pub toggled : (w : ℕ) → listed w (next_slot s ++ set) ≡ bit (change_at n w (t + 1) && scope.traces w)
  toggled w =
      let time : t + 1 + 0 ≡ t + 1 = omega arith in
      listed_append w (next_slot s) set
      ∙ ap (λ k. k + listed w set) (is.stands.events w 0 some ∙ ap (λ u. bit (is_expected n scope w u)) time)
      ∙ ap (λ k. bit (is_expected n scope w (t + 1)) + k) (sets w)
      ∙ sum_when w (scope.traces w) refl

  pub in_slot : (x : ℕ) → listed x slot ≡ bit (late_change n (scope.source x) (t + 1) && nat_lt 0 (later_by next (before x)))
  in_slot x =
      let time : t + 1 + 0 ≡ t + 1 = omega arith in
      have x 0 (omega arith) ∙ ap (λ u. bit (late_change n (scope.source x) u && nat_lt 0 (later_by next (before x)))) time

  -- a wire is heard at once, and a copy by its own slot
  heard_when : (x : ℕ) (o : Option ℕ) (traced : Bool) → before x ≡ o → scope.traces x ≡ traced → (traced || is_some o) ≡ true →
      bit (change_at n x (t + 1) && traced) + bit (late_change n (scope.source x) (t + 1) && nat_lt 0 (later_by next o)) ≡ bit (late_change n (scope.source x) (t + 1))
  heard_when x (Some y) true after traced number = absurd (both_tests (scope.traces x) traced (whole.copies x y after).0)
  heard_when x (Some y) false after traced number =
      let positive = chained.some x y after in
      let test : nat_lt 0 (copy_at next y).delay ≡ true = grind (arith, nat_tests) in
      ap (λ b. bit (change_at n x (t + 1) && false) + bit (late_change n (scope.source x) (t + 1) && b)) test
      ∙ copy_bit (change_at n x (t + 1)) (late_change n (scope.source x) (t + 1))
  heard_when x None true after traced number =
      let same : late_change n (scope.source x) (t + 1) ≡ change_at n x (t + 1) = ap (λ (r : ℕ × ℕ). late_change n r (t + 1)) (whole.source x traced) ∙ at_once n x t in
      ap (λ b. bit (change_at n x (t + 1) && true) + bit (b && false)) same ∙ wire_bit (change_at n x (t + 1)) ∙ sym (ap bit same)
  heard_when x None false after traced number = absurd (false_is_true number)

  pub heard : (x : ℕ) → is_number scope before x ≡ true → listed x (next_slot s ++ set) + listed x slot ≡ bit (late_change n (scope.source x) (t + 1))
  heard x number =
      ap (λ k. k + listed x slot) (toggled x)
      ∙ ap (λ k. bit (change_at n x (t + 1) && scope.traces x) + k) (in_slot x)
      ∙ heard_when x (before x) (scope.traces x) refl refl number

  few_when : (x : ℕ) (o : Option ℕ) (traced : Bool) → before x ≡ o → scope.traces x ≡ traced →
      bit (change_at n x (t + 1) && traced) + bit (late_change n (scope.source x) (t + 1) && nat_lt 0 (later_by next o)) ≤ 1
  few_when x (Some y) true after traced = absurd (both_tests (scope.traces x) traced (whole.copies x y after).0)
  few_when x (Some y) false after traced = few_copy (change_at n x (t + 1)) (late_change n (scope.source x) (t + 1)) (nat_lt 0 (copy_at next y).delay)
  few_when x None traced after is_traced = few_wire (change_at n x (t + 1)) traced (late_change n (scope.source x) (t + 1))

  once : (x : ℕ) → listed x ((next_slot s ++ set) ++ slot) ≤ 1
  once x =
      let sum = listed_append x (next_slot s ++ set) slot in
      let a = toggled x in
      let b = in_slot x in
      let few = few_when x (before x) (scope.traces x) refl refl in
      omega arith

  pub all_due : IsAll n scope before t (next_slot s ++ set) slot
  all_due = record {
    due = record {
      toggled = toggled;
      once = once;
      heard = λ q active k d within.
          let x = slice_index_or (scope.inputs q) k d in
          listed_append x (next_slot s ++ set) slot ∙ heard x (whole.inputs q active k d within);
    };
    originals = λ x y after.
        let sum = listed_append y slot (next_slot s ++ set) in
        let all = heard y (whole.copies x y after).1 in
        omega arith;
  }

pub slots_have_all : SlotsHaveAll
slots_have_all n ok scope before next t s set slot rest is some whole sets chained have = all_due n ok scope before next t s set slot rest is some whole sets chained have
