-- What comes into the level wheel in a unit: the changes that copies repeat, and those of the wires that modules with data drive.
use Rattle.std.proofs.Common.{◌≡◌, ℕ, ◌+◌, ◌-◌, ◌*◌, ◌<◌, ◌≤◌, Bool, true, false, nat_lt, List, ◌++◌, Option, Some, None, All, length, refl, sym, ap, ◌∙◌, arith}
use Rattle.std.specs.Prelude.{◌==◌, ◌&&◌}
use Rattle.std.specs.List.{count_by}
use Rattle.std.proofs.lemmas.Bool.{eqb-true}
use Rattle.std.proofs.lemmas.Bool.Decides.{nat_tests}
use Rattle.std.proofs.lemmas.List.Elements.{All-append}
use Rattle.std.proofs.Math.ListN.{get_or-eq_default}
use Rattle.mp_records.specs.declared.ids.ModuleId.{ModuleId}
use Rattle.mp_netlist.specs.declared.driver.Driver.{Driver}
use Rattle.mp_netlist.specs.declared.driver.Driver.TheVariants.{Nothing, Stimulus, Port}
use Rattle.mp_netlist.specs.Circuit.{Circuit}
use Rattle.mp_netlist.specs.Drivers.{driver}
use Rattle.mp_modules.specs.automata.Codes.{bit}
use Rattle.mp_kernel.specs.declared.events.output_port.OutputPort.{OutputPort}
use Rattle.mp_kernel.specs.events.Firing.{copy_at, no_port}
use Rattle.mp_simulation.specs.bits.Changes.{change_at, late_change}
use Rattle.mp_simulation.specs.bits.Copies.{AreChained}
use Rattle.mp_simulation.proofs.lemmas.bits.ScheduleLemmas.{none_some}
use Rattle.mp_simulation.proofs.lemmas.bits.CopyLemmas.{late_shift}
use Rattle.mp_kernel.specs.declared.datapath.level_change.LevelChange.{LevelChange}
use Rattle.mp_kernel.specs.datapath.LevelWheels.{copied_from}
use Rattle.mp_simulation.specs.units.DataLevels.{is_data, changes_of, IsLevelAt}
use Rattle.mp_simulation.specs.units.DataWheels.{driver_delay, ahead_by, ahead}
use Rattle.mp_simulation.proofs.lemmas.units.LevelWheelLemmas.{is_change, counted_both, HoldsOf}
use Rattle.mp_simulation.proofs.lemmas.units.AheadLemmas.{has_change, one_ahead, none_ahead, none_without, AreEntered}
use Rattle.mp_simulation.proofs.lemmas.units.LevelCopyLemmas.{no_copies, copies_are, copied_levels}
use Rattle.mp_simulation.proofs.lemmas.units.FiredLemmas.{both}
use Rattle.mp_simulation.proofs.lemmas.units.PresentLemmas.{at_once}

and_true : (b : Bool) → (b && true) ≡ b
and_true true = refl
and_true false = refl

both_bits : (e f : Bool) → bit e * bit f ≡ bit (e && f)
both_bits true true = refl
both_bits true false = refl
both_bits false true = refl
both_bits false false = refl

number_when : (next : List OutputPort) (y x : ℕ) (low : Bool) → nat_lt y (length next) ≡ low → (copy_at next y).wire ≡ Some x → y < length next
number_when next y x true is wire = grind (arith, nat_tests)
number_when next y x false is wire =
    let beyond : length next ≤ y = grind (arith, nat_tests) in
    absurd (none_some x (sym (ap (λ (port : OutputPort). port.wire) (get_or-eq_default next no_port beyond)) ∙ wire))

abbrev is_not_port : Driver → Bool
is_not_port Nothing = true
is_not_port Stimulus = true
is_not_port (Port m p) = false

module _ (n : Circuit) (source : ℕ → ℕ × ℕ) (before : ℕ → Option ℕ) (next : List OutputPort) (t : ℕ) (present : List LevelChange) (chained : AreChained source before next)
    (each : (x : ℕ) → x < length next → changes_of x present ≡ bit (has_change n source x (t + 1))) (right : All (IsLevelAt n source (t + 1)) present)
    (own_source : (x : ℕ) → x < length next → is_data n (source x).0 ≡ true → before x ≡ None → source x ≡ (x, 0))
    (wires : (w : ℕ) → is_data n w ≡ true → (source w ≡ (w, 0)) × (before w ≡ None))
    (delays : (x p : ℕ) (m : ModuleId) → driver n x ≡ Port m p → 0 < driver_delay n (Port m p)) (entries : List (ℕ × LevelChange))
    (driven : (k x p : ℕ) (m : ModuleId) → driver n x ≡ Port m p → is_data n x ≡ true →
    count_by (is_change k x) entries ≡ bit (change_at n x (t + 1 + driver_delay n (Port m p)) && (driver_delay n (Port m p) - 1 == k)))
    (none : (k x : ℕ) → ((m : ModuleId) (p : ℕ) → driver n x ≡ Port m p → is_data n x ≡ true → ⊥) → count_by (is_change k x) entries ≡ 0)
    (levels : All (HoldsOf (λ k. IsLevelAt n source (t + 1 + 1 + k))) entries) where
  change_is : (x u : ℕ) → source x ≡ (x, 0) → is_data n x ≡ true → 0 < u → has_change n source x u ≡ change_at n x u
  change_is x u own here some =
      ap (λ (r : ℕ × ℕ). late_change n r u && is_data n r.0) own ∙ ap (λ b. late_change n (x, 0) u && b) here ∙ and_true (late_change n (x, 0) u) ∙ at_once n x u some

  of_copy : (x y k : ℕ) → before x ≡ Some y →
      bit (has_change n source x (t + 1 + 1 + k) && nat_lt (k + 1) (copy_at next y).delay) + (count_by (is_change k x) (copied_from next present) + count_by (is_change k x) entries) ≡
      bit (has_change n source x (t + 1 + 1 + k) && nat_lt k (copy_at next y).delay)
  of_copy x y k after =
      let d = (copy_at next y).delay in
      let some : 0 < (copy_at next y).delay = chained.some x y after in
      let low = number_when next y x (nat_lt y (length next)) refl (chained.first x y after) in
      let copies : count_by (is_change k x) (copied_from next present) ≡ bit (has_change n source y (t + 1) && (d - 1 == k)) =
      copies_are n source before next t present chained x y k after ∙ ap (λ c. c * bit (d - 1 == k)) (each y low) ∙ both_bits (has_change n source y (t + 1)) (d - 1 == k) in
      let other : count_by (is_change k x) entries ≡ 0 = none k x (λ m p drives wide. none_some y (sym (wires x wide).1 ∙ after)) in
      let all : count_by (is_change k x) (copied_from next present) + count_by (is_change k x) entries ≡ bit (has_change n source y (t + 1) && (d - 1 == k)) = omega arith in
      ap (λ c. bit (has_change n source x (t + 1 + 1 + k) && nat_lt (k + 1) d) + c) all
      ∙ one_ahead (has_change n source x (t + 1 + 1 + k)) (has_change n source y (t + 1)) d k (d - 1 == k) refl some
      (λ here.
      let same : d - 1 ≡ k = eqb-true (d - 1) k here in
      let time : t + 1 + d ≡ t + 1 + 1 + k = omega arith in
      ap (λ b. b && is_data n (source y).0) (sym (late_shift n (source x) (source y) d (t + 1) (chained.wire x y after) (chained.delay x y after)) ∙ ap (late_change n (source x)) time)
      ∙ ap (λ w. late_change n (source x) (t + 1 + 1 + k) && is_data n w) (sym (chained.wire x y after)))

  by_driver : (x k : ℕ) (d : Driver) → driver n x ≡ d → source x ≡ (x, 0) → is_data n x ≡ true →
      bit (has_change n source x (t + 1 + 1 + k) && nat_lt (k + 1) (driver_delay n d)) + count_by (is_change k x) entries ≡ bit (has_change n source x (t + 1 + 1 + k) && nat_lt k (driver_delay n d))
  by_driver x k Nothing drives own here =
      none_ahead (has_change n source x (t + 1 + 1 + k)) k 0 (count_by (is_change k x) entries) refl (none k x (λ m p port wide. both (is_not_port (driver n x)) (ap is_not_port drives) (ap is_not_port port)))
  by_driver x k Stimulus drives own here =
      none_ahead (has_change n source x (t + 1 + 1 + k)) k 0 (count_by (is_change k x) entries) refl (none k x (λ m p port wide. both (is_not_port (driver n x)) (ap is_not_port drives) (ap is_not_port port)))
  by_driver x k (Port m p) drives own here =
      let d = driver_delay n (Port m p) in
      ap (λ c. bit (has_change n source x (t + 1 + 1 + k) && nat_lt (k + 1) d) + c) (driven k x p m drives here)
      ∙ one_ahead (has_change n source x (t + 1 + 1 + k)) (change_at n x (t + 1 + d)) d k (d - 1 == k) refl (delays x p m drives)
      (λ is.
      let positive = delays x p m drives in
      let same : d - 1 ≡ k = eqb-true (d - 1) k is in
      let time : t + 1 + d ≡ t + 1 + 1 + k = omega arith in
      ap (change_at n x) time ∙ sym (change_is x (t + 1 + 1 + k) own here (omega arith)))

  of_wire : (x k : ℕ) (wide : Bool) → is_data n (source x).0 ≡ wide → x < length next → before x ≡ None →
      bit (has_change n source x (t + 1 + 1 + k) && nat_lt (k + 1) (driver_delay n (driver n x))) + count_by (is_change k x) entries ≡
      bit (has_change n source x (t + 1 + 1 + k) && nat_lt k (driver_delay n (driver n x)))
  of_wire x k true is number first =
      let own = own_source x number is first in
      by_driver x k (driver n x) refl own (sym (ap (λ (r : ℕ × ℕ). is_data n r.0) own) ∙ is)
  of_wire x k false is number first =
      let other = none k x (λ m p drives wide. both (is_data n (source x).0) (ap (λ (r : ℕ × ℕ). is_data n r.0) (wires x wide).0 ∙ wide) is) in
      ap (λ b. bit ((late_change n (source x) (t + 1 + 1 + k) && b) && nat_lt (k + 1) (driver_delay n (driver n x))) + count_by (is_change k x) entries) is
      ∙ none_without (late_change n (source x) (t + 1 + 1 + k)) (nat_lt (k + 1) (driver_delay n (driver n x))) (nat_lt k (driver_delay n (driver n x))) (count_by (is_change k x) entries) other
      ∙ sym (ap (λ b. bit ((late_change n (source x) (t + 1 + 1 + k) && b) && nat_lt k (driver_delay n (driver n x)))) is)

  by_before : (x k : ℕ) (o : Option ℕ) → x < length next → before x ≡ o →
      bit (has_change n source x (t + 1 + 1 + k) && nat_lt (k + 1) (ahead_by n next x o)) + (count_by (is_change k x) (copied_from next present) + count_by (is_change k x) entries) ≡
      bit (has_change n source x (t + 1 + 1 + k) && nat_lt k (ahead_by n next x o))
  by_before x k (Some y) number after = of_copy x y k after
  by_before x k None number first =
      let copies = no_copies n source before next t present chained x k first in
      let all : count_by (is_change k x) (copied_from next present) + count_by (is_change k x) entries ≡ count_by (is_change k x) entries = omega arith in
      ap (λ c. bit (has_change n source x (t + 1 + 1 + k) && nat_lt (k + 1) (driver_delay n (driver n x))) + c) all
      ∙ of_wire x k (is_data n (source x).0) refl number first

  pub entered : AreEntered n source before next t (copied_from next present ++ entries)
  entered = record {
    each = λ x k number.
        ap (λ c. bit (has_change n source x (t + 1 + 1 + k) && nat_lt (k + 1) (ahead n before next x)) + c) (counted_both k x (copied_from next present) entries)
        ∙ by_before x k (before x) number refl;
    levels = All-append (HoldsOf (λ k. IsLevelAt n source (t + 1 + 1 + k))) (copied_from next present) entries (copied_levels n source before next t present chained right) levels;
  }
