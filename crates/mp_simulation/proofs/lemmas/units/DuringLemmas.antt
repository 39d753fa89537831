-- Within a unit a simulator stays as it is but for its wheel, where modules with data have answered.
use Rattle.std.proofs.Common.{◌≡◌, ℕ, ◌+◌, ◌-◌, ◌<◌, ◌≤◌, Bool, true, false, not, nat_lt, List, [], Option, Some, None, length, refl, sym, ap, ◌∙◌, arith}
use Rattle.std.specs.Prelude.{◌==◌, ◌&&◌, slice_index_or, is_some}
use Rattle.std.specs.List.{count_by}
use Rattle.std.proofs.lemmas.Bool.{eqb-true, eqb-false}
use Rattle.std.proofs.lemmas.Bool.Decides.{nat_tests}
use Rattle.std.proofs.Math.ListN.{get_or-eq_default}
use Rattle.mp_records.specs.declared.wire_record.WireRecord.{WireRecord}
use Rattle.mp_records.specs.declared.ids.ModuleId.{ModuleId}
use Rattle.mp_records.specs.declared.module_record.ModuleRecord.{ModuleRecord}
use Rattle.mp_records.specs.Outputs.{delay_of}
use Rattle.mp_netlist.specs.declared.driver.Driver.{Driver}
use Rattle.mp_netlist.specs.declared.driver.Driver.TheVariants.{Nothing, Stimulus, Port}
use Rattle.mp_netlist.specs.Circuit.{Circuit, IsCircuit, module_at, Drives}
use Rattle.mp_netlist.specs.Drivers.{driver, is_port}
use Rattle.mp_netlist.proofs.DriverLemmas.{finds_only_ports, portless_is_undriven, driven_stands}
use Rattle.mp_model.specs.Evaluations.{delay_in}
use Rattle.mp_modules.specs.automata.Codes.{bit}
use Rattle.mp_kernel.specs.events.Adding.{listed}
use Rattle.mp_kernel.specs.events.Firing.{is_entry, scheduled}
use Rattle.mp_kernel.proofs.lemmas.events.EntryLemmas.{schedules_each}
use Rattle.mp_simulation.specs.declared.bits.simulator.Simulator.{Simulator}
use Rattle.mp_simulation.specs.bits.Changes.{change_at, is_decided}
use Rattle.mp_simulation.specs.bits.Scopes.{Scope}
use Rattle.mp_simulation.specs.bits.Simulators.{slot_at}
use Rattle.mp_simulation.specs.bits.Units.{IsLaidOut, HaveEvents, IsDuring}
use Rattle.mp_simulation.proofs.lemmas.bits.FiredLemmas.{same_test, sum_bits}
use Rattle.mp_simulation.specs.units.DataLevels.{is_data, is_bit_wire}
use Rattle.mp_simulation.proofs.lemmas.units.FiredLemmas.{both}

abbrev pub data_known : Option ℕ → ℕ → ℕ → ℕ
data_known None units known = units
data_known (Some q) units known = known

-- the modules with data have answered so many units
abbrev pub with_data : Scope → ℕ → Scope
with_data scope units = record scope { known = λ m. data_known (scope.place m) units (scope.known m) }

abbrev pub with_wheel : Simulator → List (List ℕ) → Simulator
with_wheel s wheel = record s { wheel = wheel }

none_is_some : (o : Option ℕ) (q : ℕ) → o ≡ None → o ≡ Some q → ⊥
none_is_some o q none is = cc

low_when : (slots : List (Option WireRecord)) (w : ℕ) (low : Bool) → nat_lt w (length slots) ≡ low → is_some (slice_index_or slots w None) ≡ true → nat_lt w (length slots) ≡ true
low_when slots w true is stands = is
low_when slots w false is stands =
    let beyond : length slots ≤ w = grind (arith, nat_tests) in
    absurd (both (is_some (slice_index_or slots w None)) stands (ap (λ (o : Option WireRecord). is_some o) (get_or-eq_default slots None beyond)))

-- a wire that a port drives is one
pub wire_low : (n : Circuit) → IsCircuit n → (m p w : ℕ) → Drives n m p w → nat_lt w (length n.wires) ≡ true
wire_low n ok m p w drv = low_when n.wires w (nat_lt w (length n.wires)) refl (driven_stands n ok m p w drv)

no_owner : (c d : Bool) → bit (c && d && false) ≡ 0
no_owner true true = refl
no_owner true false = refl
no_owner false d = refl

and_false : (b : Bool) → (b && not true) ≡ false
and_false true = refl
and_false false = refl

module _ (n : Circuit) (ok : IsCircuit n) (scope : Scope) (t : ℕ) (s : Simulator) (during : IsDuring n scope t s)
    (owns : (w u : ℕ) → scope.owns w u ≡ is_bit_wire n w) (known : (m : ℕ) (r : ModuleRecord) → module_at n m ≡ Some r → scope.known m ≡ t + 1)
    (room : (w p : ℕ) (m : ModuleId) (r : ModuleRecord) → driver n w ≡ Port m p → module_at n m.0 ≡ Some r → (0 < delay_of r p) × (delay_of r p ≤ length s.wheel))
    (entries : List (ℕ × ℕ))
    (none : (k w : ℕ) → ((m p : ℕ) → scope.place m ≡ None → Drives n m p w → ⊥) → count_by (is_entry k w) entries ≡ 0)
    (wide : (k w : ℕ) → is_data n w ≡ true → count_by (is_entry k w) entries ≡ 0)
    (driven : (k w p : ℕ) (m : ModuleId) (r : ModuleRecord) → driver n w ≡ Port m p → module_at n m.0 ≡ Some r → scope.place m.0 ≡ None → is_data n w ≡ false → 0 < delay_of r p →
    count_by (is_entry k w) entries ≡ bit (change_at n w (t + 1 + delay_of r p) && (delay_of r p - 1 == k)))
    (new : List (List ℕ)) (is : new ≡ scheduled s.wheel entries) (units : length new ≡ length s.wheel) where
  slot_is : (w k : ℕ) → k < length s.wheel → listed w (slice_index_or new k []) ≡ listed w (slot_at s k) + count_by (is_entry k w) entries
  slot_is w k within = ap (λ (xs : List (List ℕ)). listed w (slice_index_or xs k [])) is ∙ schedules_each s.wheel entries k w within

  unchanged_slot : (w k : ℕ) → k < length s.wheel → count_by (is_entry k w) entries ≡ 0 → listed w (slice_index_or new k []) ≡ listed w (slot_at s k)
  unchanged_slot w k within zero_count = let sum = slot_is w k within in omega arith

  old_slot : (w k p : ℕ) (m : ModuleId) (r : ModuleRecord) → k < length s.wheel → driver n w ≡ Port m p → module_at n m.0 ≡ Some r →
      listed w (slot_at s k) ≡ bit (change_at n w (t + 1 + 1 + k) && nat_lt (t + 1 + 1 + k) (scope.known m.0 + delay_of r p) && scope.owns w (t + 1 + 1 + k))
  old_slot w k p m r within drives at =
      let u = t + 1 + 1 + k in
      during.events w k within
      ∙ ap (λ (d : Driver). bit (change_at n w u && is_decided n scope.known d u && scope.owns w u)) drives
      ∙ ap (λ o. bit (change_at n w u && nat_lt u (scope.known m.0 + delay_in o p) && scope.owns w u)) at

  by_width : (w k p : ℕ) (m : ModuleId) (r : ModuleRecord) (is_wide : Bool) → is_data n w ≡ is_wide → k < length s.wheel → driver n w ≡ Port m p → module_at n m.0 ≡ Some r → scope.place m.0 ≡ None →
      Drives n m.0 p w → listed w (slice_index_or new k []) ≡ bit (change_at n w (t + 1 + 1 + k) && nat_lt (t + 1 + 1 + k) (t + 2 + delay_of r p) && scope.owns w (t + 1 + 1 + k))
  by_width w k p m r true is_wide within drives at place drv =
      let u = t + 1 + 1 + k in
      let other : scope.owns w (t + 1 + 1 + k) ≡ false = owns w u ∙ ap (λ b. nat_lt w (length n.wires) && not b) is_wide ∙ and_false (nat_lt w (length n.wires)) in
      unchanged_slot w k within (wide k w is_wide)
      ∙ old_slot w k p m r within drives at
      ∙ ap (λ o. bit (change_at n w u && nat_lt u (scope.known m.0 + delay_of r p) && o)) other
      ∙ no_owner (change_at n w u) (nat_lt u (scope.known m.0 + delay_of r p))
      ∙ sym (ap (λ o. bit (change_at n w u && nat_lt u (t + 2 + delay_of r p) && o)) other ∙ no_owner (change_at n w u) (nat_lt u (t + 2 + delay_of r p)))
  by_width w k p m r false is_wide within drives at place drv =
      let d = delay_of r p in
      let u = t + 1 + 1 + k in
      let fits = room w p m r drives at in
      let own : scope.owns w (t + 1 + 1 + k) ≡ true = owns w u ∙ ap (λ b. nat_lt w (length n.wires) && not b) is_wide ∙ ap (λ b. b && true) (wire_low n ok m.0 p w drv) in
      let some_delay : 0 < delay_of r p = fits.0 in
      slot_is w k within
      ∙ ap (λ x. x + count_by (is_entry k w) entries) (old_slot w k p m r within drives at ∙ ap (λ x. bit (change_at n w u && nat_lt u (x + d) && scope.owns w u)) (known m.0 r at))
      ∙ ap (λ x. bit (change_at n w u && nat_lt u (t + 1 + d) && scope.owns w u) + x) (driven k w p m r drives at place is_wide some_delay)
      ∙ sum_bits (change_at n w u) (change_at n w (t + 1 + d)) (scope.owns w u) (nat_lt u (t + 1 + d)) (nat_lt u (t + 2 + d)) (d - 1 == k)
      (λ here.
      let same : d - 1 ≡ k = eqb-true (d - 1) k here in
      let time : t + 1 + d ≡ u = omega arith in
      let was : nat_lt u (t + 1 + d) ≡ false = grind (arith, nat_tests) in
      let now : nat_lt u (t + 2 + d) ≡ true = grind (arith, nat_tests) in
      (was, now, own, ap (change_at n w) time))
      (λ else_where. let differs = eqb-false (d - 1) k else_where in same_test u (t + 1 + d) (t + 2 + d) (nat_lt u (t + 1 + d)) refl (omega arith) (λ e. absurd (omega arith)))

  by_place : (w k p : ℕ) (m : ModuleId) (r : ModuleRecord) (o : Option ℕ) → k < length s.wheel → driver n w ≡ Port m p → module_at n m.0 ≡ Some r → scope.place m.0 ≡ o → Drives n m.0 p w →
      listed w (slice_index_or new k []) ≡ bit (change_at n w (t + 1 + 1 + k) && nat_lt (t + 1 + 1 + k) (data_known o (t + 2) (scope.known m.0) + delay_of r p) && scope.owns w (t + 1 + 1 + k))
  by_place w k p m r None within drives at place drv = by_width w k p m r (is_data n w) refl within drives at place drv
  by_place w k p m r (Some q) within drives at place drv =
      unchanged_slot w k within
      (none k w (λ m2 p2 none_there drv2.
      let same = (ok.one_port m2 p2 m.0 p w drv2 drv).0 in
      none_is_some (scope.place m.0) q (ap scope.place (sym same) ∙ none_there) place))
      ∙ old_slot w k p m r within drives at

  by_driver : (w k : ℕ) (d : Driver) → k < length s.wheel → driver n w ≡ d →
      listed w (slice_index_or new k []) ≡ bit (change_at n w (t + 1 + 1 + k) && is_decided n (with_data scope (t + 2)).known d (t + 1 + 1 + k) && scope.owns w (t + 1 + 1 + k))
  by_driver w k Nothing within drives =
      let u = t + 1 + 1 + k in
      unchanged_slot w k within (none k w (λ m p place drv. portless_is_undriven n ok w (ap is_port drives) m p drv))
      ∙ during.events w k within
      ∙ ap (λ (d : Driver). bit (change_at n w u && is_decided n scope.known d u && scope.owns w u)) drives
  by_driver w k Stimulus within drives =
      let u = t + 1 + 1 + k in
      unchanged_slot w k within (none k w (λ m p place drv. portless_is_undriven n ok w (ap is_port drives) m p drv))
      ∙ during.events w k within
      ∙ ap (λ (d : Driver). bit (change_at n w u && is_decided n scope.known d u && scope.owns w u)) drives
  by_driver w k (Port m p) within drives =
      let u = t + 1 + 1 + k in
      let drv = finds_only_ports n w p m drives in
      by_place w k p m drv.part (scope.place m.0) within drives drv.stands refl drv
      ∙ sym (ap (λ o. bit (change_at n w u && nat_lt u ((with_data scope (t + 2)).known m.0 + delay_in o p) && scope.owns w u)) drv.stands)

  events_next : HaveEvents n (with_data scope (t + 2)) (t + 1) (with_wheel s new)
  events_next w k within = by_driver w k (driver n w) (omega arith) refl

  room_when : (w p : ℕ) (m : ModuleId) (r : ModuleRecord) (o : Option ℕ) → driver n w ≡ Port m p → module_at n m.0 ≡ Some r →
      data_known o (t + 2) (scope.known m.0) + delay_of r p ≤ t + 1 + 1 + length s.wheel
  room_when w p m r None drives at = let fits = (room w p m r drives at).1 in omega arith
  room_when w p m r (Some q) drives at = during.room w p m r drives at

  layout_now : IsLaidOut n (with_data scope (t + 2)) (with_wheel s new)
  layout_now =
      let b = during.layout in
      record {
        ports = b.ports;
        seats = λ m q r at place.
            let seat = b.seats m q r at place in
            record {
              within = seat.within;
              active = seat.active;
              of_bits = seat.of_bits;
              state_bits = seat.state_bits;
              input_bits = seat.input_bits;
              reads = seat.reads;
              drives = seat.drives;
              owned = λ w p u drv late.
                  let same : data_known (scope.place m) (t + 2) (scope.known m) ≡ scope.known m = ap (λ (o : Option ℕ). data_known o (t + 2) (scope.known m)) place in
                  seat.owned w p u drv (omega arith);
            };
        placed = b.placed;
      }

  pub still_during : IsDuring n (with_data scope (t + 2)) t (with_wheel s new)
  still_during = record {
    layout = layout_now;
    units = during.units;
    numbered = during.numbered;
    asleep = during.asleep;
    active = during.active;
    levels = during.levels;
    answered = λ m q place. ap (λ (o : Option ℕ). data_known o (t + 2) (scope.known m)) place ∙ during.answered m q place;
    waves = during.waves;
    events = events_next;
    room = λ w p m r drives at. let a = room_when w p m r (scope.place m.0) drives at in let b = units in omega arith;
  }
