-- A simulation of a netlist of any widths at time 0.
use Rattle.std.proofs.Common.{◌≡◌, ◌≢◌, ℕ, zero, suc, ◌+◌, ◌-◌, ◌<◌, ◌≤◌, Bool, true, false, not, cond, List, [], ◌∷◌, Option, Some, None, is_some, All, length, nat_lt, refl, sym, ap, ◌∙◌, arith, subst, inl, inr}
use Rattle.std.specs.Prelude.{◌&&◌, ◌==◌, slice_index_or}
use Rattle.std.proofs.lemmas.Bool.{cases_lt, eqb-true, eqb-false}
use Rattle.std.proofs.lemmas.Bool.Decides.{nat_tests}
use Rattle.std.proofs.lemmas.List.{get_or_past, get_or-map, length-map}
use Rattle.std.proofs.lemmas.List.Elements.{All-from_get_or}
use Rattle.std.proofs.lemmas.Option.{none-some, same_Some}
use Rattle.mp_wave.specs.Waveform.{Waveform, wave_upto}
use Rattle.mp_wave.specs.Building.{Building}
use Rattle.mp_modules.specs.Memories.{output_of}
use Rattle.mp_records.specs.declared.ids.ModuleId.{ModuleId}
use Rattle.mp_records.specs.declared.wire_record.WireRecord.{WireRecord}
use Rattle.mp_records.specs.declared.module_record.ModuleRecord.{ModuleRecord}
use Rattle.mp_records.specs.Outputs.{output_at, delay_of}
use Rattle.mp_netlist.specs.declared.driver.Driver.{Driver}
use Rattle.mp_netlist.specs.declared.driver.Driver.TheVariants.{Nothing, Stimulus, Port}
use Rattle.mp_netlist.specs.Circuit.{Circuit, IsCircuit, wire_at, module_at}
use Rattle.mp_netlist.specs.Drivers.{driver}
use Rattle.mp_netlist.proofs.DriverLemmas.{finds_only_ports, leaves_no_driver}
use Rattle.mp_model.specs.Evaluations.{delay_in}
use Rattle.mp_model.specs.Levels.{initial_of}
use Rattle.mp_model.specs.Waves.{level, state}
use Rattle.mp_model.proofs.EndsLemmas.{first_level}
use Rattle.mp_model.proofs.InputLemmas.{input_is}
use Rattle.mp_model.proofs.SlotLemmas.{slot_within}
use Rattle.mp_modules.specs.automata.Codes.{bit}
use Rattle.mp_kernel.specs.events.Firing.{HasSlot, HaveSlots, copy_at}
use Rattle.mp_simulation.specs.bits.Changes.{change_at, late_change}
use Rattle.mp_simulation.specs.bits.Copies.{AreChained}
use Rattle.mp_simulation.specs.bits.Beginnings.{is_first}
use Rattle.mp_simulation.proofs.lemmas.bits.ChangeLemmas.{ports_begin, ports_wait}
use Rattle.mp_kernel.specs.declared.datapath.data_module.DataModule.{DataModule}
use Rattle.mp_modules.specs.storage.DataParts.{any_part}
use Rattle.mp_kernel.specs.datapath.DataModules.{CanFire}
use Rattle.mp_kernel.specs.datapath.DataFiring.{place_at, module_at as data_module_at, no_module}
use Rattle.mp_simulation.specs.declared.units.netlist_simulation.NetlistSimulation.{NetlistSimulation}
use Rattle.mp_simulation.specs.units.DataLevels.{is_data, has_data, late_level, changes_of, IsLevelAt}
use Rattle.mp_simulation.specs.units.DataWheels.{data_slot, driver_delay, ahead_by, ahead, AreDataWires}
use Rattle.mp_simulation.specs.units.DataWaves.{no_building, building_at}
use Rattle.mp_simulation.specs.units.DataSeats.{number_at, bit_ports_of, IsDataSeat, AreDataModules}
use Rattle.mp_simulation.specs.units.NetlistSimulations.{AreSplit, IsSimulated}
use Rattle.mp_simulation.proofs.lemmas.units.LateLemmas.{own_level}
use Rattle.mp_simulation.specs.declared.run.layout.Layout.{Layout}
use Rattle.mp_simulation.specs.run.Widths.{is_bit_module}
use Rattle.mp_simulation.specs.run.FirstLevels.{first_building}
use Rattle.mp_simulation.specs.run.Numbering.{level_of_wire, is_bit}
use Rattle.mp_simulation.specs.run.Settling.{is_below}
use Rattle.mp_simulation.specs.run.Wirings.{AreWired, reading_below}
use Rattle.mp_simulation.specs.run.Seating.{IsSeatedAt}
use Rattle.mp_simulation.specs.run.Beginnings.{IsPartOf, IsBegun}
use Rattle.mp_simulation.proofs.lemmas.run.PortLemmas.{level_slot, bit_slots}
use Rattle.mp_simulation.proofs.lemmas.run.SettlingLemmas.{delay_some}
use Rattle.mp_simulation.proofs.lemmas.run.NumberingLemmas.{kept_before, kept_chained, kept_slots, kept_below, old_before}
use Rattle.mp_simulation.proofs.lemmas.run.WidthLemmas.{data_first}
use Rattle.mp_simulation.proofs.lemmas.run.PartLemmas.{data_part_is}
use Rattle.mp_simulation.proofs.lemmas.run.BegunLemmas.{waves_long, wired, numbers, links, sound_run}
use Rattle.mp_simulation.proofs.lemmas.run.BeginningLemmas.{seat_of, the_before, scope, sources_own, running, bit_number, whole}

never : (c : Bool) → 0 ≡ bit (c && false)
never true = refl
never false = refl

never_both : (c d : Bool) → d ≡ false → bit (c && d) ≡ 0
never_both true d none = ap bit none
never_both false d none = refl

never_data : (c d e : Bool) → d ≡ false → 0 ≡ bit ((c && d) && e)
never_data true d e none = sym (ap (λ b. bit (b && e)) none)
never_data false d e none = refl

-- the first change of a wire, by its time and its delay
by_time : (same change differs data_too known : Bool) → (same ≡ true → (change ≡ differs) × (known ≡ true)) → (same ≡ false → (change && known) ≡ false) →
    bit (true && ((same && differs) && data_too)) ≡ bit ((change && data_too) && known)
by_time true change differs data_too known at other = let facts = at refl in rw (facts.0, facts.1) (here differs data_too)
  where
    here : (a b : Bool) → bit (true && ((true && a) && b)) ≡ bit ((a && b) && true)
    here true true = refl
    here true false = refl
    here false b = refl
by_time false change differs data_too known at other = not_now change data_too known (other refl)
  where
    not_now : (a b c : Bool) → (a && c) ≡ false → bit (true && ((false && differs) && b)) ≡ bit ((a && b) && c)
    not_now true true c none = sym (ap bit none)
    not_now true false c none = refl
    not_now false b c none = refl

number_in : (xs : List ℕ) (P : ℕ → Type 0) → All P xs → (p x : ℕ) → number_at xs p ≡ Some x → P x
number_in [] P all p x is = absurd (none-some x is)
number_in (y ∷ xs) P all zero x is = subst P (same_Some y x is) (all 0 y (omega arith))
number_in (y ∷ xs) P all (suc p) x is = number_in xs P (λ k d within. all (suc k) d (omega arith)) p x is

-- a simulation at time 0 has the numbers of a layout
pub record IsSimulatedBy (n all : Circuit) (plan : Layout) (inputs : ℕ → List ℕ) (s : NetlistSimulation) : Type 0 where
  pub is : IsSimulated n 0 s
  pub inputs_are : is.scope.inputs ≡ inputs
  pub wiring : AreWired (length n.wires) (length n.modules) (reading_below all (length all.modules)) inputs plan.wired.wiring
  pub source_is : is.scope.source ≡ wiring.source

module _ (n all : Circuit) (ok : IsCircuit n) (all_ok : IsCircuit all) (of_all : IsPartOf n all) (plan : Layout) (s : NetlistSimulation) (are : IsBegun n all plan s) where
  abbrev source : ℕ → ℕ × ℕ
  source = (wired n all ok all_ok of_all plan s.bits are.begun).source

  abbrev old : ℕ → Option ℕ
  old = (wired n all ok all_ok of_all plan s.bits are.begun).before

  abbrev data_before : ℕ → Option ℕ
  data_before = kept_before (is_data n) plan.wired.wiring.wires.items plan.wired.wiring.next.items s.wires.next.items are.wires.next (wired n all ok all_ok of_all plan s.bits are.begun).source (wired n all ok all_ok of_all plan s.bits are.begun).origins
      (wired n all ok all_ok of_all plan s.bits are.begun).before (wired n all ok all_ok of_all plan s.bits are.begun).numbers.chained

  old_data : (x y : ℕ) → data_before x ≡ Some y → (is_data n (source x).0 ≡ true) × (old x ≡ Some y)
  old_data = old_before (is_data n) plan.wired.wiring.wires.items plan.wired.wiring.next.items s.wires.next.items are.wires.next (wired n all ok all_ok of_all plan s.bits are.begun).source (wired n all ok all_ok of_all plan s.bits are.begun).origins
      (wired n all ok all_ok of_all plan s.bits are.begun).before (wired n all ok all_ok of_all plan s.bits are.begun).numbers.chained

  old_bits : (x y : ℕ) → the_before n all ok all_ok of_all plan s.bits are.begun x ≡ Some y → (is_bit n (source x).0 ≡ true) × (old x ≡ Some y)
  old_bits = old_before (is_bit n) plan.wired.wiring.wires.items plan.wired.wiring.next.items s.bits.copies.next.items are.begun.bits.next (wired n all ok all_ok of_all plan s.bits are.begun).source (wired n all ok all_ok of_all plan s.bits are.begun).origins
      (wired n all ok all_ok of_all plan s.bits are.begun).before (wired n all ok all_ok of_all plan s.bits are.begun).numbers.chained

  data_wire : (w : ℕ) (slot : Option WireRecord) → wire_at n w ≡ slot → has_data slot ≡ true → w < length n.wires
  data_wire w None at is = cc
  data_wire w (Some r) at is = slot_within n.wires w r at

  own_source : (w : ℕ) → w < length n.wires → source w ≡ (w, 0)
  own_source w low = (wired n all ok all_ok of_all plan s.bits are.begun).numbers.own w low

  none_before : (x : ℕ) → x < length n.wires → data_before x ≡ None
  none_before x low = by (is_data n (source x).0)
    where
      by : (b : Bool) → cond b (old x) None ≡ None
      by true = (wired n all ok all_ok of_all plan s.bits are.begun).numbers.first x low
      by false = refl

  -- ---- numbers
  split : AreSplit n (scope n all ok all_ok of_all plan s.bits are.begun) (the_before n all ok all_ok of_all plan s.bits are.begun) data_before (length s.bits.simulator.fanout)
  split = record {
    bits = λ x low none. bit_number n all ok all_ok of_all plan s.bits are.begun x (let many = numbers n all ok all_ok of_all plan s.bits are.begun in omega arith) none;
    with_data = λ x low is none. own_number x (let many = numbers n all ok all_ok of_all plan s.bits are.begun in omega arith) is none;
    wires = λ w is. let low = data_wire w (wire_at n w) refl is in (own_source w low, none_before w low);
    data_copies = λ x y is. (old_data x y is).0;
    bit_copies = λ x y is. not_true (is_data n (source x).0) (old_bits x y is).0;
  }
    where
      not_true : (b : Bool) → not b ≡ true → b ≡ false
      not_true true is = sym is
      not_true false is = refl

      own_number : (x : ℕ) → x < length plan.wired.wiring.next.items → is_data n (source x).0 ≡ true → data_before x ≡ None → source x ≡ (x, 0)
      own_number x within is none = elim (cases_lt x (length n.wires)) as (λ _. source x ≡ (x, 0)) [
        | inl low ↦ own_source x low
        | inr past ↦
            let tied = (wired n all ok all_ok of_all plan s.bits are.begun).numbers.tied x past within in
            let some : is_some (old x) ≡ false = ap is_some (sym (ap (λ b. cond b (old x) None) is) ∙ none) in
            absurd (cc (tied, some))
      ]

  -- ---- levels
  all_wires : length plan.wired.wiring.wires.items ≡ length plan.wired.wiring.next.items
  all_wires = (wired n all ok all_ok of_all plan s.bits are.begun).origins.long

  level_first : (x : ℕ) → x < length plan.wired.wiring.next.items → slice_index_or s.wires.levels.items x 0 ≡ late_level n (source x) 0
  level_first x within =
      let inside : x < length plan.wired.wiring.wires.items = let size = all_wires in omega arith in
      let past : 0 - (source x).1 ≡ 0 = omega arith in
      let late : late_level n (source x) 0 ≡ level n (source x).0 (0 - (source x).1) = input_is n ok (record { wire = record { 0 = (source x).0 }; delay = (source x).1 }) 0 in
      ap (λ (xs : List ℕ). slice_index_or xs x 0) are.wires.levels
      ∙ get_or-map (level_of_wire n) plan.wired.wiring.wires.items x 0 0 inside
      ∙ ap (level_of_wire n) ((wired n all ok all_ok of_all plan s.bits are.begun).origins.each x within)
      ∙ sym (first_level n ok (source x).0)
      ∙ ap (level n (source x).0) (sym past)
      ∙ sym late

  building_first : (w : ℕ) → w < length n.wires → building_at s.wires.waves.items w ≡ first_building (wire_at n w)
  building_first w low = ap (λ (xs : List Building). building_at xs w) are.wires.waves ∙ get_or-map first_building n.wires w None no_building low

  built_first : (w : ℕ) → is_data n w ≡ true → (building_at s.wires.waves.items w).wave ≡ wave_upto (level n w) 0
  built_first w is =
      ap (λ (b : Building). b.wave) (building_first w (data_wire w (wire_at n w) refl is))
      ∙ ap (λ (k : ℕ). let v : Waveform = record { initial = k; changes = [] } in v) (sym (first_level n ok w))

  over_first : (w : ℕ) → (building_at s.wires.waves.items w).next < 0 + 2
  over_first w = elim (cases_lt w (length n.wires)) as (λ _. (building_at s.wires.waves.items w).next < 0 + 2) [
    | inl low ↦ let one = ap (λ (b : Building). b.next) (building_first w low) in omega arith
    | inr past ↦
        let long = ap (length {A = Building}) are.wires.waves ∙ length-map n.wires first_building in
        let none = ap (λ (b : Building). b.next) (get_or_past s.wires.waves.items w no_building (omega arith)) in
        omega arith
  ]

  -- ---- the wheel
  late_own : (w k : ℕ) → late_change n (w, 0) (0 + 1 + k) ≡ change_at n w (k + 1)
  late_own w k =
      let time : 0 + 1 + k - 0 ≡ k + 1 = omega arith in
      let test : nat_lt 0 (0 + 1 + k) ≡ true = grind (arith, nat_tests) in
      ap (λ b. cond b (change_at n w (0 + 1 + k - 0)) false) test ∙ ap (change_at n w) time

  port_first : (w p k : ℕ) (m : ModuleId) (r : ModuleRecord) → driver n w ≡ Port m p → module_at n m.0 ≡ Some r → (output_at r p).wire ≡ Some (record { 0 = w }) →
      bit (true && ((delay_of r p == k + 1 && not (initial_of (wire_at n w) == output_of (state n m.0 0) p)) && is_data n w)) ≡
      bit ((change_at n w (k + 1) && is_data n w) && nat_lt k (delay_of r p))
  port_first w p k m r drives at output =
      let some : 0 < delay_of r p = delay_some n ok m.0 p w r at output in
      by_time (delay_of r p == k + 1) (change_at n w (k + 1)) (not (initial_of (wire_at n w) == output_of (state n m.0 0) p)) (is_data n w) (nat_lt k (delay_of r p))
      (λ here.
      let same : delay_of r p ≡ k + 1 = eqb-true (delay_of r p) (k + 1) here in
      let known : nat_lt k (delay_of r p) ≡ true = grind (arith, nat_tests) in
      (ap (change_at n w) (sym same) ∙ ports_begin n ok w p m r drives at some, known))
      (λ elsewhere. by_order (nat_lt (k + 1) (delay_of r p)) refl elsewhere)
    where
      none_with : (c : Bool) → (c && false) ≡ false
      none_with true = refl
      none_with false = refl

      by_order : (early : Bool) → nat_lt (k + 1) (delay_of r p) ≡ early → (delay_of r p == k + 1) ≡ false → (change_at n w (k + 1) && nat_lt k (delay_of r p)) ≡ false
      by_order true is elsewhere =
          let before : k + 1 < delay_of r p = grind (arith, nat_tests) in
          rw (ports_wait n ok w p (k + 1) m r drives at before) refl
      by_order false is elsewhere =
          let after : delay_of r p ≤ k + 1 = grind (arith, nat_tests) in
          let differs : delay_of r p ≢ k + 1 = eqb-false (delay_of r p) (k + 1) elsewhere in
          let far : delay_of r p ≤ k = omega arith in
          let late : nat_lt k (delay_of r p) ≡ false = grind (arith, nat_tests) in
          rw late (none_with (change_at n w (k + 1)))

  wire_by : (w k : ℕ) (dr : Driver) → driver n w ≡ dr →
      bit (is_below (length n.modules) dr && (is_first n dr w (k + 1) && is_data n w)) ≡ bit ((change_at n w (k + 1) && is_data n w) && nat_lt k (driver_delay n dr))
  wire_by w k Nothing is = let test : nat_lt k 0 ≡ false = grind (arith, nat_tests) in never (change_at n w (k + 1) && is_data n w) ∙ ap (λ b. bit ((change_at n w (k + 1) && is_data n w) && b)) (sym test)
  wire_by w k Stimulus is = let test : nat_lt k 0 ≡ false = grind (arith, nat_tests) in never (change_at n w (k + 1) && is_data n w) ∙ ap (λ b. bit ((change_at n w (k + 1) && is_data n w) && b)) (sym test)
  wire_by w k (Port m p) is =
      let drv = finds_only_ports n w p m is in
      let low = slot_within n.modules m.0 drv.part drv.stands in
      let test : nat_lt m.0 (length n.modules) ≡ true = grind (arith, nat_tests) in
      ap (λ b. bit (b && (is_first n (Port m p) w (k + 1) && is_data n w))) test
      ∙ ap (λ o. bit (true && ((delay_in o p == k + 1 && not (initial_of (wire_at n w) == output_of (state n m.0 0) p)) && is_data n w))) drv.stands
      ∙ port_first w p k m drv.part is drv.stands drv.output
      ∙ sym (ap (λ o. bit ((change_at n w (k + 1) && is_data n w) && nat_lt k (delay_in o p))) drv.stands)

  -- a copy is later than a time up to which it is later than what it stands after
  early : (v : ℕ × ℕ) (k later : ℕ) (c known : Bool) → nat_lt k later ≡ known → later ≤ v.1 → 0 ≡ bit ((late_change n v (0 + 1 + k) && c) && known)
  early v k later c true is high =
      let below : k < later = grind (arith, nat_tests) in
      let test : nat_lt v.1 (0 + 1 + k) ≡ false = grind (arith, nat_tests) in
      sym (ap (λ b. bit ((cond b (change_at n v.0 (0 + 1 + k - v.1)) false && c) && true)) test)
  early v k later c false is high = never (late_change n v (0 + 1 + k) && c)

  data_chained : AreChained source data_before s.wires.next.items
  data_chained = kept_chained (is_data n) plan.wired.wiring.wires.items plan.wired.wiring.next.items s.wires.next.items are.wires.next (wired n all ok all_ok of_all plan s.bits are.begun).source (wired n all ok all_ok of_all plan s.bits are.begun).origins
      (wired n all ok all_ok of_all plan s.bits are.begun).before (wired n all ok all_ok of_all plan s.bits are.begun).numbers.chained

  copy_by : (x k : ℕ) → length n.wires ≤ x → x < length plan.wired.wiring.next.items → (o : Option ℕ) → data_before x ≡ o →
      0 ≡ bit ((late_change n (source x) (0 + 1 + k) && is_data n (source x).0) && nat_lt k (ahead_by n s.wires.next.items x o))
  copy_by x k past within (Some y) is =
      let later = data_chained.delay x y is in
      early (source x) k (copy_at s.wires.next.items y).delay (is_data n (source x).0) (nat_lt k (copy_at s.wires.next.items y).delay) refl (omega arith)
  copy_by x k past within None is = by (is_data n (source x).0) refl
    where
      by : (b : Bool) → is_data n (source x).0 ≡ b → 0 ≡ bit ((late_change n (source x) (0 + 1 + k) && is_data n (source x).0) && nat_lt k (ahead_by n s.wires.next.items x None))
      by true has =
          let tied = (wired n all ok all_ok of_all plan s.bits are.begun).numbers.tied x past within in
          let some : is_some (old x) ≡ false = ap is_some (sym (ap (λ b. cond b (old x) None) has) ∙ is) in
          absurd (cc (tied, some))
      by false has = never_data (late_change n (source x) (0 + 1 + k)) (is_data n (source x).0) (nat_lt k (ahead_by n s.wires.next.items x None)) has

  each_first : (x k : ℕ) → x < length plan.wired.wiring.next.items → k < length s.wires.wheel →
      changes_of x (data_slot s.wires.wheel k) ≡ bit ((late_change n (source x) (0 + 1 + k) && is_data n (source x).0) && nat_lt k (ahead n data_before s.wires.next.items x))
  each_first x k within inside = are.seated.slots x k inside ∙ elim (cases_lt x (length n.wires)) as (λ _. bit (is_below (length n.modules) (driver n x) && (is_first n (driver n x) x (k + 1) && is_data n x)) ≡
      bit ((late_change n (source x) (0 + 1 + k) && is_data n (source x).0) && nat_lt k (ahead n data_before s.wires.next.items x))) [
        | inl low ↦
            wire_by x k (driver n x) refl
            ∙ ap (λ b. bit ((b && is_data n x) && nat_lt k (driver_delay n (driver n x)))) (sym (late_own x k))
            ∙ ap (λ (v : ℕ × ℕ). bit ((late_change n v (0 + 1 + k) && is_data n v.0) && nat_lt k (driver_delay n (driver n x)))) (sym (own_source x low))
            ∙ ap (λ (o : Option ℕ). bit ((late_change n (source x) (0 + 1 + k) && is_data n (source x).0) && nat_lt k (ahead_by n s.wires.next.items x o))) (sym (none_before x low))
        | inr past ↦
            ap (λ dr. bit (is_below (length n.modules) dr && (is_first n dr x (k + 1) && is_data n x))) (leaves_no_driver n ok x (get_or_past n.wires x None past))
            ∙ copy_by x k past within (data_before x) refl
      ]

  levels_first : (k : ℕ) → All (IsLevelAt n source (0 + 1 + k)) (data_slot s.wires.wheel k)
  levels_first k j e within =
      let c = slice_index_or (data_slot s.wires.wheel k) j e in
      let is = are.seated.levels k j e within in
      let time : k + 1 ≡ 0 + 1 + k = omega arith in
      is.level ∙ ap (level n c.number) time ∙ sym (own_level n c.number (0 + 1 + k)) ∙ ap (λ (v : ℕ × ℕ). late_level n v (0 + 1 + k)) (sym (own_source c.number is.wire))

  some_units : 0 < length s.wires.wheel
  some_units = let a = are.begun.laid.some_output in let b = are.outputs in omega arith

  wires_first : AreDataWires n source data_before (length plan.wired.wiring.next.items) 0 s.wires
  wires_first =
      let link = links n all ok all_ok of_all plan s.bits are.begun (length s.wires.wheel) are.inputs in
      record {
        places = ap (length {A = ℕ}) are.wires.levels ∙ length-map plan.wired.wiring.wires.items (level_of_wire n) ∙ all_wires;
        next = are.wires.next.long;
        chained = data_chained;
        below = kept_below (is_data n) plan.wired.wiring.wires.items plan.wired.wiring.next.items s.wires.next.items are.wires.next (length plan.wired.wiring.next.items) link.below;
        within = kept_slots (is_data n) plan.wired.wiring.wires.items plan.wired.wiring.next.items s.wires.next.items are.wires.next (length s.wires.wheel) some_units link.slots;
        some = some_units;
        numbered = λ k j e within. let low = (are.seated.levels k j e within).wire in let enough = (wired n all ok all_ok of_all plan s.bits are.begun).numbers.enough in omega arith;
        changes = record {
          each = λ x k within inside. each_first x k (let long = are.wires.next.long in omega arith) inside;
          levels = levels_first;
        };
        levels = level_first;
        wires = ap (length {A = Building}) are.wires.waves ∙ length-map n.wires first_building;
        waves = built_first;
        over = over_first;
      }

  -- ---- modules with data
  fires : (q : ℕ) (m : DataModule) → IsSeatedAt n q (slice_index_or plan.wired.inputs.items q []) m → CanFire (length plan.wired.wiring.next.items) (length s.bits.simulator.wheel) (length s.wires.wheel) m
  fires q m is =
      let there = of_all.same q is.part is.stands in
      let low = slot_within all.modules q is.part there in
      let delays = (are.begun.laid.within q is.part low there).outputs in
      record {
        reads = λ p x reads.
            number_in (are.begun.laid.wired.inputs q) (λ v. v < length plan.wired.wiring.next.items) ((wired n all ok all_ok of_all plan s.bits are.begun).low q) p x
            (sym (are.begun.laid.wired.by_port q low p) ∙ ap (λ (m : DataModule). slice_index_or m.inputs p None) (sym is.is) ∙ reads);
        bits = subst (λ (m : DataModule). HaveSlots (length s.bits.simulator.wheel) m.ports.bits) (sym is.is)
            (subst (λ k. HaveSlots k (bit_ports_of n is.part)) (sym are.begun.bits.units) (bit_slots n ok plan.delays.outputs q is.part is.stands delays are.begun.laid.some_output));
        level = subst (λ (m : DataModule). HasSlot (length s.wires.wheel) m.ports.level) (sym is.is)
            (level_slot n ok (length s.wires.wheel) q is.part is.stands (λ k e within. let a = delays k e within in let b = are.outputs in omega arith) some_units);
      }

  seat_first : (q : ℕ) (m : DataModule) → IsSeatedAt n q (slice_index_or plan.wired.inputs.items q []) m →
      IsDataSeat n (scope n all ok all_ok of_all plan s.bits are.begun) (length plan.wired.wiring.next.items) (length s.bits.simulator.wheel) (length s.wires.wheel) 0 q m
  seat_first q m is =
      let low = slot_within all.modules q is.part (of_all.same q is.part is.stands) in
      record {
        record_of = is.part;
        stands = is.stands;
        inactive = ap (seat_of n q) is.stands ∙ ap (λ b. cond b (Some q) None) is.wide;
        does = ap (λ (m : DataModule). any_part m.part) is.is ∙ data_part_is n is.part is.wide;
        outputs = ap (λ (m : DataModule). m.outputs) is.is;
        sources = sources_own n all ok all_ok of_all plan s.bits are.begun q is.part is.stands;
        reads = λ p. ap (λ (m : DataModule). slice_index_or m.inputs p None) is.is ∙ are.begun.laid.wired.by_port q low p;
        low = (wired n all ok all_ok of_all plan s.bits are.begun).low q;
        bits = ap (λ (m : DataModule). m.ports.bits) is.is;
        level = ap (λ (m : DataModule). m.ports.level) is.is;
        first = λ w p drv has. data_first n ok q p w drv has;
        fit = fires q m is;
      }

  whole_first : (m : ℕ) (r : ModuleRecord) → module_at n m ≡ Some r → seat_of n m (module_at n m) ≡ None → is_some (place_at s.modules.places.items m) ≡ true
  whole_first m r at none = by (is_bit_module n r) refl (ap (seat_of n m) (sym at) ∙ none)
    where
      by : (b : Bool) → is_bit_module n r ≡ b → cond b (Some m) None ≡ None → is_some (place_at s.modules.places.items m) ≡ true
      by true bits e = absurd (none-some m (sym e))
      by false bits e = are.seated.whole m r (slot_within n.modules m r at) at bits

  modules_first : AreDataModules n (scope n all ok all_ok of_all plan s.bits are.begun) (length plan.wired.wiring.next.items) (length s.bits.simulator.states.items) (length s.bits.simulator.wheel) (length s.wires.wheel) 0 s.modules
  modules_first = record {
    long = are.seated.long ∙ sym are.begun.bits.settled.places;
    placed = are.seated.placed;
    fit = All-from_get_or (CanFire (length plan.wired.wiring.next.items) (length s.bits.simulator.wheel) (length s.wires.wheel)) s.modules.modules.items no_module
        (λ k inside. let place = are.seated.each k inside in fires place.place (data_module_at s.modules.modules.items k) (are.seated.seats place.place k place.is));
    seats = λ q k is. seat_first q (data_module_at s.modules.modules.items k) (are.seated.seats q k is);
    whole = whole_first;
  }

  abbrev in_layout : IsSimulated n 0 s
  in_layout = record {
    scope = scope n all ok all_ok of_all plan s.bits are.begun;
    before = the_before n all ok all_ok of_all plan s.bits are.begun;
    data_before = data_before;
    sound = sound_run n all ok all_ok of_all plan s.bits are.begun;
    running = running n all ok all_ok of_all plan s.bits are.begun;
    whole = whole n all ok all_ok of_all plan s.bits are.begun;
    own = λ w u. refl;
    traces = λ w. refl;
    known = λ m r at. refl;
    places = are.begun.bits.settled.places;
    seats = λ m r at. ap (seat_of n m) at;
    waves = waves_long n all ok all_ok of_all plan s.bits are.begun;
    split = split;
    wires = subst (λ k. AreDataWires n source data_before k 0 s.wires) (sym (numbers n all ok all_ok of_all plan s.bits are.begun)) wires_first;
    modules = subst (λ k. AreDataModules n (scope n all ok all_ok of_all plan s.bits are.begun) k (length s.bits.simulator.states.items) (length s.bits.simulator.wheel) (length s.wires.wheel) 0 s.modules)
        (sym (numbers n all ok all_ok of_all plan s.bits are.begun)) modules_first;
  }

  pub simulated : IsSimulated n 0 s
  simulated = in_layout

  pub simulated_by : IsSimulatedBy n all plan are.begun.laid.wired.inputs s
  simulated_by = record { is = in_layout; inputs_are = refl; wiring = wired n all ok all_ok of_all plan s.bits are.begun; source_is = refl }
