-- What a simulation knows of the units to come.
use Rattle.std.proofs.Common.{◌≡◌, ℕ, ◌+◌, ◌-◌, ◌<◌, ◌≤◌, Bool, true, false, not, cond, nat_lt, List, [], Option, Some, All, length, refl, sym, ap, ◌∙◌, arith}
use Rattle.std.specs.Prelude.{◌&&◌, slice_index_or}
use Rattle.std.proofs.lemmas.Bool.Decides.{nat_tests}
use Rattle.std.proofs.Math.ListN.{get_or-eq_default}
use Rattle.mp_netlist.specs.declared.driver.Driver.{Driver}
use Rattle.mp_netlist.specs.declared.driver.Driver.TheVariants.{Nothing, Stimulus, Port}
use Rattle.mp_netlist.specs.Circuit.{Circuit, IsCircuit, module_at, wire_at}
use Rattle.mp_netlist.specs.Drivers.{driver}
use Rattle.mp_netlist.proofs.DriverLemmas.{finds_only_ports}
use Rattle.mp_model.specs.Evaluations.{delay_in}
use Rattle.mp_model.specs.Levels.{initial_of}
use Rattle.mp_model.specs.Waves.{level}
use Rattle.mp_modules.specs.automata.Codes.{bit}
use Rattle.mp_kernel.specs.events.Adding.{listed}
use Rattle.mp_simulation.specs.bits.Changes.{change_at, is_decided, late_change}
use Rattle.mp_simulation.specs.bits.Simulators.{slot_at}
use Rattle.mp_kernel.specs.declared.datapath.level_change.LevelChange.{LevelChange}
use Rattle.mp_simulation.specs.declared.units.netlist_simulation.NetlistSimulation.{NetlistSimulation}
use Rattle.mp_simulation.specs.units.DataLevels.{is_data, is_bit_wire, changes_of, late_level}
use Rattle.mp_simulation.specs.units.DataWheels.{data_slot, driver_delay, ahead_by, ahead}
use Rattle.mp_simulation.specs.units.NetlistSimulations.{IsSimulated}
use Rattle.mp_simulation.proofs.lemmas.units.PresentLemmas.{at_once}
use Rattle.mp_simulation.proofs.lemmas.units.SeatLemmas.{owns, far_driver}

turned_round : (a b c : Bool) → bit (a && b && c) ≡ bit ((a && c) && b)
turned_round true true true = refl
turned_round true true false = refl
turned_round true false true = refl
turned_round true false false = refl
turned_round false b c = refl

none_last : (a : Bool) → bit (a && false) ≡ 0
none_last true = refl
none_last false = refl

none_within : (a b : Bool) → bit ((a && false) && b) ≡ 0
none_within true b = refl
none_within false b = refl

-- tests of times are tests of how many units are between
less_by : (t k d : ℕ) (low : Bool) → nat_lt k d ≡ low → nat_lt (t + 1 + k) (t + 1 + d) ≡ low
less_by t k d true is = let low : k < d = grind (arith, nat_tests) in grind (arith, nat_tests)
less_by t k d false is = let past : d ≤ k = grind (arith, nat_tests) in grind (arith, nat_tests)

module _ (n : Circuit) (ok : IsCircuit n) (t : ℕ) (s : NetlistSimulation) (is : IsSimulated n t s) where
  decided : (w k : ℕ) (d : Driver) → driver n w ≡ d → is_decided n is.scope.known d (t + 1 + k) ≡ nat_lt k (driver_delay n d)
  decided w k Nothing drives = let none : nat_lt k 0 ≡ false = grind (arith, nat_tests) in sym none
  decided w k Stimulus drives = let none : nat_lt k 0 ≡ false = grind (arith, nat_tests) in sym none
  decided w k (Port m p) drives =
      let drv = finds_only_ports n w p m drives in
      let known = is.known m.0 drv.part drv.stands in
      ap (λ a. nat_lt (t + 1 + k) (a + delay_in (module_at n m.0) p)) known
      ∙ less_by t k (delay_in (module_at n m.0) p) (nat_lt k (delay_in (module_at n m.0) p)) refl

  -- what is known is in the wheel
  room : (w : ℕ) (d : Driver) → driver n w ≡ d → driver_delay n d ≤ length s.bits.simulator.wheel
  room w Nothing drives = omega arith
  room w Stimulus drives = omega arith
  room w (Port m p) drives =
      let drv = finds_only_ports n w p m drives in
      let known = is.known m.0 drv.part drv.stands in
      let far = is.running.simulator.stands.room w p m drv.part drives drv.stands in
      let same : delay_in (module_at n m.0) p ≡ delay_in (Some drv.part) p = ap (λ o. delay_in o p) drv.stands in
      omega arith

  past : (slots : List (List ℕ)) (w k : ℕ) → length slots ≤ k → listed w (slice_index_or slots k []) ≡ 0
  past slots w k beyond = ap (listed w) (get_or-eq_default slots [] beyond)

  toggles_when : (w k : ℕ) (low : Bool) → nat_lt k (length s.bits.simulator.wheel) ≡ low →
      listed w (slot_at s.bits.simulator k) ≡ bit ((change_at n w (t + 1 + k) && is_bit_wire n w) && nat_lt k (driver_delay n (driver n w)))
  toggles_when w k true low =
      let within : k < length s.bits.simulator.wheel = grind (arith, nat_tests) in
      is.running.simulator.stands.events w k within
      ∙ ap (λ (b : Bool). bit (change_at n w (t + 1 + k) && b && is.scope.owns w (t + 1 + k))) (decided w k (driver n w) refl)
      ∙ ap (λ (b : Bool). bit (change_at n w (t + 1 + k) && nat_lt k (driver_delay n (driver n w)) && b)) (owns n ok t s is w (t + 1 + k))
      ∙ turned_round (change_at n w (t + 1 + k)) (nat_lt k (driver_delay n (driver n w))) (is_bit_wire n w)
  toggles_when w k false low =
      let beyond : length s.bits.simulator.wheel ≤ k = grind (arith, nat_tests) in
      let far = room w (driver n w) refl in
      let late : nat_lt k (driver_delay n (driver n w)) ≡ false = grind (arith, nat_tests) in
      past s.bits.simulator.wheel w k beyond
      ∙ sym (ap (λ b. bit ((change_at n w (t + 1 + k) && is_bit_wire n w) && b)) late ∙ none_last (change_at n w (t + 1 + k) && is_bit_wire n w))

  pub toggles : (w k : ℕ) → listed w (slot_at s.bits.simulator k) ≡ bit ((change_at n w (t + 1 + k) && is_bit_wire n w) && nat_lt k (driver_delay n (driver n w)))
  toggles w k = toggles_when w k (nat_lt k (length s.bits.simulator.wheel)) refl

  -- ---- wires with data

  number : (w : ℕ) → w < length n.wires → w < length s.wires.next.items
  number w low =
      let rows = is.sound.simulator.rows in
      let waves = is.waves in
      let next = is.wires.next in
      omega arith

  -- a wire that isn't one of data is one of width 1
  bit_source : (w : ℕ) → w < length n.wires → is_data n w ≡ false → is.scope.source w ≡ (w, 0)
  bit_source w low narrow =
      let test : nat_lt w (length n.wires) ≡ true = grind (arith, nat_tests) in
      is.whole.source w (is.traces w ∙ ap (λ b. b && not (is_data n w)) test ∙ ap (λ b. not b) narrow)

  changes_when : (w k : ℕ) (wide low : Bool) → w < length n.wires → is_data n w ≡ wide → nat_lt k (length s.wires.wheel) ≡ low →
      changes_of w (data_slot s.wires.wheel k) ≡ bit ((change_at n w (t + 1 + k) && is_data n w) && nat_lt k (driver_delay n (driver n w)))
  changes_when w k true true stands wide low =
      let within : k < length s.wires.wheel = grind (arith, nat_tests) in
      let own = is.split.wires w wide in
      let change : late_change n (is.scope.source w) (t + 1 + k) ≡ change_at n w (t + 1 + k) =
      ap (λ (r : ℕ × ℕ). late_change n r (t + 1 + k)) own.0 ∙ at_once n w (t + 1 + k) (omega arith) in
      is.wires.changes.each w k (number w stands) within
      ∙ ap (λ b. bit ((b && is_data n (is.scope.source w).0) && nat_lt k (ahead n is.data_before s.wires.next.items w))) change
      ∙ ap (λ (r : ℕ × ℕ). bit ((change_at n w (t + 1 + k) && is_data n r.0) && nat_lt k (ahead n is.data_before s.wires.next.items w))) own.0
      ∙ ap (λ (o : Option ℕ). bit ((change_at n w (t + 1 + k) && is_data n w) && nat_lt k (ahead_by n s.wires.next.items w o))) own.1
  changes_when w k false true stands narrow low =
      let within : k < length s.wires.wheel = grind (arith, nat_tests) in
      let own : is_data n (is.scope.source w).0 ≡ false = ap (λ (r : ℕ × ℕ). is_data n r.0) (bit_source w stands narrow) ∙ narrow in
      is.wires.changes.each w k (number w stands) within
      ∙ ap (λ b. bit ((late_change n (is.scope.source w) (t + 1 + k) && b) && nat_lt k (ahead n is.data_before s.wires.next.items w))) own
      ∙ none_within (late_change n (is.scope.source w) (t + 1 + k)) (nat_lt k (ahead n is.data_before s.wires.next.items w))
      ∙ sym (ap (λ b. bit ((change_at n w (t + 1 + k) && b) && nat_lt k (driver_delay n (driver n w)))) narrow ∙ none_within (change_at n w (t + 1 + k)) (nat_lt k (driver_delay n (driver n w))))
  changes_when w k true false stands wide low =
      let beyond : length s.wires.wheel ≤ k = grind (arith, nat_tests) in
      let far = far_driver n ok t s is w (driver n w) refl wide in
      let late : nat_lt k (driver_delay n (driver n w)) ≡ false = grind (arith, nat_tests) in
      ap (changes_of w) (get_or-eq_default s.wires.wheel [] beyond)
      ∙ sym (ap (λ b. bit ((change_at n w (t + 1 + k) && is_data n w) && b)) late ∙ none_last (change_at n w (t + 1 + k) && is_data n w))
  changes_when w k false false stands narrow low =
      let beyond : length s.wires.wheel ≤ k = grind (arith, nat_tests) in
      ap (changes_of w) (get_or-eq_default s.wires.wheel [] beyond)
      ∙ sym (ap (λ b. bit ((change_at n w (t + 1 + k) && b) && nat_lt k (driver_delay n (driver n w)))) narrow ∙ none_within (change_at n w (t + 1 + k)) (nat_lt k (driver_delay n (driver n w))))

  pub changes : (w k : ℕ) → w < length n.wires → changes_of w (data_slot s.wires.wheel k) ≡ bit ((change_at n w (t + 1 + k) && is_data n w) && nat_lt k (driver_delay n (driver n w)))
  changes w k stands = changes_when w k (is_data n w) (nat_lt k (length s.wires.wheel)) stands refl refl

  pub levels : (k : ℕ) → All (λ (c : LevelChange). is_data n c.number ≡ true → c.level ≡ level n c.number (t + 1 + k)) (data_slot s.wires.wheel k)
  levels k i d within wide =
      let c = slice_index_or (data_slot s.wires.wheel k) i d in
      let own = (is.split.wires c.number wide).0 in
      let early : nat_lt (t + 1 + k) 0 ≡ false = grind (arith, nat_tests) in
      is.wires.changes.levels k i d within
      ∙ ap (λ (r : ℕ × ℕ). late_level n r (t + 1 + k)) own
      ∙ ap (λ (b : Bool). cond b (initial_of (wire_at n c.number)) (level n c.number (t + 1 + k - 0))) early
      ∙ (let same : t + 1 + k - 0 ≡ t + 1 + k = omega arith in ap (level n c.number) same)
