-- The modules and wires of width 1 of a simulation at time 0.
use Rattle.std.proofs.Common.{◌≡◌, ℕ, zero, suc, ◌+◌, ◌<◌, ◌≤◌, Bool, true, false, not, cond, List, [], Option, Some, None, is_some, length, map, nat_lt, refl, sym, ap, ◌∙◌, arith, subst, inl, inr}
use Rattle.std.specs.Prelude.{◌&&◌, ◌==◌, slice_index_or}
use Rattle.std.proofs.lemmas.Bool.{cases_lt, eq-eqb, ltb-true, eqb-true, or_left, or_right, and_parts}
use Rattle.std.proofs.lemmas.Bool.Decides.{nat_tests}
use Rattle.std.proofs.lemmas.List.{get_or_past, get_or-map, length-map}
use Rattle.std.proofs.lemmas.Option.{none-some, same_Some}
use Rattle.mp_wave.specs.Waveform.{Waveform, wave_upto}
use Rattle.mp_records.specs.declared.ids.ModuleId.{ModuleId}
use Rattle.mp_records.specs.declared.ports.Input.{Input}
use Rattle.mp_records.specs.declared.wire_record.WireRecord.{WireRecord}
use Rattle.mp_records.specs.declared.module_record.ModuleRecord.{ModuleRecord}
use Rattle.mp_records.specs.Inputs.{no_input}
use Rattle.mp_records.specs.Outputs.{output_at, delay_of}
use Rattle.mp_netlist.specs.declared.driver.Driver.{Driver}
use Rattle.mp_netlist.specs.declared.driver.Driver.TheVariants.{Nothing, Stimulus, Port}
use Rattle.mp_netlist.specs.Circuit.{Circuit, IsCircuit, Drives, wire_at, module_at, module_width}
use Rattle.mp_netlist.specs.Drivers.{driver}
use Rattle.mp_netlist.proofs.DriverLemmas.{finds_only_ports, driven_stands}
use Rattle.mp_model.specs.Levels.{initial_of}
use Rattle.mp_model.specs.Waves.{level, state}
use Rattle.mp_model.proofs.EndsLemmas.{first_level}
use Rattle.mp_model.proofs.SlotLemmas.{slot_within}
use Rattle.mp_modules.specs.declared.automata.automaton.Automaton.TheVariants.{Sleep}
use Rattle.mp_modules.specs.automata.Codes.{bit}
use Rattle.mp_modules.specs.automata.PortLevels.{levels_code}
use Rattle.mp_kernel.specs.declared.events.output_port.OutputPort.{OutputPort}
use Rattle.mp_kernel.specs.declared.events.output_ports.OutputPorts.{OutputPorts}
use Rattle.mp_kernel.specs.declared.events.fanout_entry.FanoutEntry.{FanoutEntry}
use Rattle.mp_kernel.specs.events.Adding.{listed}
use Rattle.mp_kernel.specs.events.LevelFlips.{levels_at}
use Rattle.mp_kernel.specs.events.Toggling.{wave_at}
use Rattle.mp_kernel.specs.events.Firing.{HasSlot, HaveSlots, no_port, ports_at}
use Rattle.mp_kernel.specs.events.Ports.{HasPorts}
use Rattle.mp_simulation.specs.bits.Scopes.{Scope}
use Rattle.mp_simulation.specs.bits.PortEvents.{source_of}
use Rattle.mp_simulation.specs.bits.Schedules.{output_port_of, output_ports_of}
use Rattle.mp_simulation.specs.bits.Simulators.{slot_at}
use Rattle.mp_simulation.specs.bits.Simulations.{IsRunning}
use Rattle.mp_simulation.specs.bits.Traces.{time_of, IsTrace}
use Rattle.mp_simulation.specs.bits.Units.{IsSeat, IsLaidOut, HaveEvents, IsBefore, rest_state_at}
use Rattle.mp_simulation.specs.bits.WholeRuns.{IsWhole, is_number}
use Rattle.mp_simulation.specs.bits.Beginnings.{is_first}
use Rattle.mp_simulation.proofs.lemmas.bits.BeginningLemmas.{first_are_known, no_copies_at_first}
use Rattle.mp_simulation.proofs.lemmas.bits.ScheduleLemmas.{few_ports, same_part}
use Rattle.mp_simulation.proofs.lemmas.bits.WidthLemmas.{have_bits}
use Rattle.mp_simulation.specs.declared.bits.simulation.Simulation.{Simulation}
use Rattle.mp_simulation.specs.units.DataLevels.{is_data, is_bit_wire}
use Rattle.mp_simulation.proofs.lemmas.units.LateLemmas.{late_bit}
use Rattle.mp_simulation.specs.declared.run.layout.Layout.{Layout}
use Rattle.mp_simulation.specs.run.Widths.{is_bit_module}
use Rattle.mp_simulation.specs.run.FirstLevels.{first_wave}
use Rattle.mp_simulation.specs.run.Numbering.{is_bit}
use Rattle.mp_simulation.specs.run.Wirings.{inputs_in, reading_below}
use Rattle.mp_simulation.specs.run.Settling.{ports_of, no_unit, first_unit_in, first_unit, is_below, is_first_bit}
use Rattle.mp_simulation.specs.run.Narrow.{IsNarrow}
use Rattle.mp_simulation.specs.run.Evaluations.{IsEvaluated}
use Rattle.mp_simulation.specs.run.Beginnings.{IsPartOf, AreBegunBits}
use Rattle.mp_simulation.proofs.lemmas.run.BegunLemmas.{waves_long, wired, outputs_within, sound_run}
use Rattle.mp_simulation.proofs.lemmas.run.NarrowLemmas.{all_bits}
use Rattle.mp_simulation.proofs.lemmas.run.NumberingLemmas.{kept_before, kept_chained, old_before}
use Rattle.mp_simulation.proofs.lemmas.run.WidthLemmas.{bit_drives, bit_reads}

-- where a module of width 1 stands
abbrev pub seat_of : Circuit → ℕ → Option ModuleRecord → Option ℕ
seat_of n m None = None
seat_of n m (Some r) = cond (is_bit_module n r) (Some m) None

drop_true : (a b : Bool) → a ≡ true → bit (a && b) ≡ bit b
drop_true true b is = refl
drop_true false b is = cc

both_bit : (a b c : Bool) → a ≡ true → bit (b && c) ≡ bit (b && (a && c))
both_bit true b c is = refl
both_bit false b c is = cc

both_true : (a b : Bool) → a ≡ true → b ≡ true → (a && b) ≡ true
both_true true true one other = refl
both_true true false one other = other
both_true false b one other = one

not_false : (b : Bool) → b ≡ false → not b ≡ true
not_false true is = sym is
not_false false is = refl

false_when : (b : Bool) → not b ≡ true → b ≡ false
false_when true is = sym is
false_when false is = refl

-- the slot of one port
one_slot : (units : ℕ) (r : ModuleRecord) (p : ℕ) → p < 3 → HaveSlots units (output_ports_of r) → HasSlot units (output_port_of (output_at r p))
one_slot units r zero low has = has.first
one_slot units r (suc zero) low has = has.second
one_slot units r (suc (suc zero)) low has = has.third
one_slot units r (suc (suc (suc p))) low has = absurd (omega arith)

-- a level of one bit is 1 where it is 1
bit_is : (k : ℕ) → k ≤ 1 → cond (k == 1) 1 0 ≡ k
bit_is zero low = refl
bit_is (suc zero) low = refl
bit_is (suc (suc k)) low = absurd (omega arith)

module _ (n all : Circuit) (ok : IsCircuit n) (all_ok : IsCircuit all) (of_all : IsPartOf n all) (plan : Layout) (s : Simulation) (are : AreBegunBits n all plan s) where
  abbrev pub the_source : ℕ → ℕ × ℕ
  the_source = (wired n all ok all_ok of_all plan s are).source

  abbrev pub the_before : ℕ → Option ℕ
  the_before = kept_before (is_bit n) plan.wired.wiring.wires.items plan.wired.wiring.next.items s.copies.next.items are.bits.next (wired n all ok all_ok of_all plan s are).source (wired n all ok all_ok of_all plan s are).origins
      (wired n all ok all_ok of_all plan s are).before (wired n all ok all_ok of_all plan s are).numbers.chained

  abbrev pub scope : Scope
  scope = record {
    place = λ m. seat_of n m (module_at n m);
    is_active = λ q. is_some (seat_of n q (module_at n q));
    inputs = are.laid.wired.inputs;
    source = (wired n all ok all_ok of_all plan s are).source;
    known = λ m. 1;
    owns = λ w u. is_bit_wire n w;
    traces = is_bit_wire n;
  }

  -- what stands at an active place
  record Stands (m q : ℕ) : Type 0 where
    same : m ≡ q
    part : ModuleRecord
    stands : module_at n m ≡ Some part
    bits : is_bit_module n part ≡ true

  placed_by : (m q : ℕ) (slot : Option ModuleRecord) → module_at n m ≡ slot → seat_of n m slot ≡ Some q → Stands m q
  placed_by m q None at is = absurd (none-some q is)
  placed_by m q (Some r) at is = by (is_bit_module n r) refl is
    where
      by : (b : Bool) → is_bit_module n r ≡ b → cond b (Some m) None ≡ Some q → Stands m q
      by true test e = record { same = same_Some m q e; part = r; stands = at; bits = test }
      by false test e = absurd (none-some q e)

  placed : (m q : ℕ) → scope.place m ≡ Some q → Stands m q
  placed m q is = placed_by m q (module_at n m) refl is

  some_place : (q : ℕ) (o : Option ℕ) → is_some o ≡ true → seat_of n q (module_at n q) ≡ o → Stands q q
  some_place q None some is = cc
  some_place q (Some x) some is =
      let own = placed_by q x (module_at n q) refl is in
      record { same = refl; part = own.part; stands = own.stands; bits = own.bits }

  active_place : (q : ℕ) → scope.is_active q ≡ true → Stands q q
  active_place q active = some_place q (seat_of n q (module_at n q)) active refl

  stands_wire : (w : ℕ) (slot : Option WireRecord) → wire_at n w ≡ slot → is_some slot ≡ true → nat_lt w (length n.wires) ≡ true
  stands_wire w None at some = cc
  stands_wire w (Some r) at some = let low = slot_within n.wires w r at in (let test : nat_lt w (length n.wires) ≡ true = grind (arith, nat_tests) in test)

  pub driven_is_wire : (m p w : ℕ) → Drives n m p w → nat_lt w (length n.wires) ≡ true
  driven_is_wire m p w drv = stands_wire w (wire_at n w) refl (driven_stands n ok m p w drv)

  -- ---- layout
  pub reads_own : (m : ℕ) (r : ModuleRecord) → module_at n m ≡ Some r → reading_below all (length all.modules) m ≡ r.inputs
  reads_own m r at =
      let there = of_all.same m r at in
      let low = slot_within all.modules m r there in
      let test : nat_lt m (length all.modules) ≡ true = grind (arith, nat_tests) in
      ap (λ b. cond b (inputs_in (module_at all m)) []) test ∙ ap inputs_in there

  drives_own : (m : ℕ) (r : ModuleRecord) → module_at n m ≡ Some r → ports_at s.simulator.outputs m ≡ output_ports_of r
  drives_own m r at =
      ap (λ (xs : List OutputPorts). ports_at xs m) are.bits.outputs
      ∙ get_or-map ports_of all.modules m None (record { first = no_port; second = no_port; third = no_port }) (slot_within all.modules m r (of_all.same m r at))
      ∙ ap ports_of (of_all.same m r at)

  pub sources_own : (m : ℕ) (r : ModuleRecord) → module_at n m ≡ Some r → map scope.source (scope.inputs m) ≡ map source_of r.inputs
  sources_own m r at = (wired n all ok all_ok of_all plan s are).reads m ∙ ap (map source_of) (reads_own m r at)

  seat : (m : ℕ) (r : ModuleRecord) → module_at n m ≡ Some r → is_bit_module n r ≡ true → IsSeat n scope s.simulator m m r
  seat m r at one =
      let bits = have_bits n ok m r at (eqb-true (module_width n r) 1 one) in
      record {
        within = let low = slot_within n.modules m r at in let places = are.bits.settled.places in omega arith;
        active = ap (λ slot. is_some (seat_of n m slot)) at ∙ ap (λ b. is_some (cond b (Some m) None)) one;
        of_bits = bits.of_bits;
        state_bits = bits.states;
        input_bits = bits.inputs;
        reads = sources_own m r at;
        drives = drives_own m r at;
        owned = λ w p u drv later. both_true (nat_lt w (length n.wires)) (not (is_data n w)) (driven_is_wire m p w drv) (not_false (is_data n w) (bit_drives n ok m p w r at one drv));
      }

  seat_is : (m q : ℕ) (r : ModuleRecord) → module_at n m ≡ Some r → Stands m q → is_bit_module n r ≡ true
  seat_is m q r at place = subst (λ (x : ModuleRecord). is_bit_module n x ≡ true) (same_part n m place.part r place.stands at) place.bits

  seats : (m q : ℕ) (r : ModuleRecord) → module_at n m ≡ Some r → scope.place m ≡ Some q → IsSeat n scope s.simulator m q r
  seats m q r at place =
      let here = placed m q place in
      subst (λ x. IsSeat n scope s.simulator m x r) here.same (seat m r at (seat_is m q r at here))

  layout : IsLaidOut n scope s.simulator
  layout = record {
    ports = λ q. subst (λ (rows : List (List FanoutEntry)). HasPorts rows q (are.laid.wired.inputs q)) (sym are.bits.fanout) ((wired n all ok all_ok of_all plan s are).ports q);
    seats = seats;
    placed = λ q within active.
        let here = active_place q active in
        record { number = q; part = here.part; stands = here.stands; is = ap (seat_of n q) here.stands ∙ ap (λ b. cond b (Some q) None) here.bits };
  }

  -- ---- states
  unit_active : (m q : ℕ) (r : ModuleRecord) → module_at n m ≡ Some r → scope.place m ≡ Some q → first_unit n q ≡ rest_state_at n r m 0
  unit_active m q r at place =
      let here = placed m q place in
      subst (λ x. first_unit n x ≡ rest_state_at n r m 0) here.same (ap (first_unit_in n m) at ∙ ap (λ b. cond b (rest_state_at n r m 0) no_unit) (seat_is m q r at here))

  levels_first : (m q : ℕ) (r : ModuleRecord) → module_at n m ≡ Some r → scope.place m ≡ Some q → levels_at s.simulator.levels.items q ≡ levels_code (state n m 0)
  levels_first m q r at place =
      let here = placed m q place in
      subst (λ x. levels_at s.simulator.levels.items x ≡ levels_code (state n m 0)) here.same (are.bits.levels.each m r (slot_within n.modules m r at) at)

  unit_asleep : (q : ℕ) (slot : Option ModuleRecord) → module_at n q ≡ slot → is_some (seat_of n q slot) ≡ false → (first_unit_in n q slot).automaton ≡ Sleep
  unit_asleep q None at none = refl
  unit_asleep q (Some r) at none = by (is_bit_module n r) none
    where
      by : (b : Bool) → is_some (cond b (Some q) None) ≡ false → (cond b (rest_state_at n r q 0) no_unit).automaton ≡ Sleep
      by true e = cc
      by false e = refl

  initial_bit : (w : ℕ) → is_bit_wire n w ≡ true → initial_of (wire_at n w) ≤ 1
  initial_bit w is =
      let no_data = false_when (is_data n w) (and_parts (nat_lt w (length n.wires)) (not (is_data n w)) is).1 in
      late_bit n ok (w, 1) 0 no_data

  first_waves_are : (w : ℕ) → w < length s.simulator.waves → is_bit_wire n w ≡ true → wave_at s.simulator.waves w ≡ wave_upto (level n w) 0
  first_waves_are w within is =
      ap (λ (xs : List Waveform). wave_at xs w) are.bits.waves
      ∙ get_or-map first_wave n.wires w None (record { initial = 0; changes = [] }) (let long = waves_long n all ok all_ok of_all plan s are in omega arith)
      ∙ ap (λ (k : ℕ). let v : Waveform = record { initial = k; changes = [] } in v) (bit_is (initial_of (wire_at n w)) (initial_bit w is) ∙ sym (first_level n ok w))

  first_trace : (w : ℕ) → w < length s.simulator.waves → is_bit_wire n w ≡ true → IsTrace (level n w) 0 (wave_at s.simulator.waves w)
  first_trace w within is = record {
    times = ap (λ (v : Waveform). map time_of v.changes) (first_waves_are w within is);
    whole = λ low. first_waves_are w within is;
  }

  -- ---- events
  first_by : (w k : ℕ) (d : Driver) → driver n w ≡ d → bit (is_below (length n.modules) d && is_first_bit n d w (k + 1)) ≡ bit (is_first n d w (k + 1) && is_bit_wire n w)
  first_by w k Nothing is = refl
  first_by w k Stimulus is = refl
  first_by w k (Port m p) is =
      let drv = finds_only_ports n w p m is in
      let low = slot_within n.modules m.0 drv.part drv.stands in
      let test : nat_lt m.0 (length n.modules) ≡ true = grind (arith, nat_tests) in
      drop_true (nat_lt m.0 (length n.modules)) (is_first_bit n (Port m p) w (k + 1)) test
      ∙ both_bit (nat_lt w (length n.wires)) (is_first n (Port m p) w (k + 1)) (not (is_data n w)) (driven_is_wire m.0 p w drv)

  have_first : (w k : ℕ) → k < length s.simulator.wheel → listed w (slot_at s.simulator k) ≡ bit (is_first n (driver n w) w (k + 1) && scope.owns w (k + 1))
  have_first w k within = are.bits.settled.slots w k within ∙ first_by w k (driver n w) refl

  -- of the ports that drive wires
  slots_of : (w p : ℕ) (m : ModuleId) (r : ModuleRecord) → driver n w ≡ Port m p → module_at n m.0 ≡ Some r → HasSlot (length s.simulator.wheel) (output_port_of (output_at r p))
  slots_of w p m r drives at =
      let drv = finds_only_ports n w p m drives in
      let low = slot_within all.modules m.0 r (of_all.same m.0 r at) in
      let long : m.0 < length s.simulator.outputs = (let a = ap (length {A = OutputPorts}) are.bits.outputs ∙ length-map all.modules ports_of in omega arith) in
      let slots : HaveSlots (length s.simulator.wheel) (output_ports_of r) =
      subst (HaveSlots (length s.simulator.wheel)) (drives_own m.0 r at)
      (outputs_within n all ok all_ok of_all plan s are m.0 (record { first = no_port; second = no_port; third = no_port }) long) in
      let output : (output_at r p).wire ≡ Some (record { 0 = w }) =
      subst (λ (x : ModuleRecord). (output_at x p).wire ≡ Some (record { 0 = w })) (same_part n m.0 drv.part r drv.stands at) drv.output in
      one_slot (length s.simulator.wheel) r p (few_ports n ok m.0 p w r at output) slots

  room_is : (w p : ℕ) (m : ModuleId) (r : ModuleRecord) → driver n w ≡ Port m p → module_at n m.0 ≡ Some r → 1 + delay_of r p ≤ 0 + 1 + length s.simulator.wheel
  room_is w p m r drives at = let high = (slots_of w p m r drives at).room in omega arith

  events_are : HaveEvents n scope 0 s.simulator
  events_are = first_are_known n ok scope s.simulator (λ w p m drives. refl) have_first

  before_first : IsBefore n scope 0 s.simulator
  before_first = record {
    stands = record {
      layout = layout;
      units = first_unit n;
      numbered = λ m within. are.bits.settled.each m (let places = are.bits.settled.places in omega arith);
      asleep = λ q none. unit_asleep q (module_at n q) refl none;
      active = unit_active;
      levels = levels_first;
      answered = λ m q place. refl;
      waves = λ w within traced. first_trace w within traced;
      events = events_are;
      room = room_is;
    };
    due = are.bits.due;
  }

  pub running : IsRunning n scope the_before 0 s
  running =
      let w = wired n all ok all_ok of_all plan s are in
      let chained = kept_chained (is_bit n) plan.wired.wiring.wires.items plan.wired.wiring.next.items s.copies.next.items are.bits.next w.source w.origins w.before w.numbers.chained in
      record {
        simulator = before_first;
        chained = chained;
        copies = no_copies_at_first n the_source the_before s.copies.next.items s.copies.wheel chained are.bits.empty;
      }

  -- ---- whole
  pub wire_number : (w : ℕ) → nat_lt w (length n.wires) ≡ true → the_source w ≡ (w, 0)
  wire_number w test = (wired n all ok all_ok of_all plan s are).numbers.own w (ltb-true w (length n.wires) test)

  pub bit_number : (x : ℕ) → x < length plan.wired.wiring.next.items → is_data n (the_source x).0 ≡ false → is_number scope the_before x ≡ true
  bit_number x within none = elim (cases_lt x (length n.wires)) as (λ _. is_number scope the_before x ≡ true) [
    | inl low ↦
        let test : nat_lt x (length n.wires) ≡ true = grind (arith, nat_tests) in
        let own : is_data n x ≡ false = ap (λ (v : ℕ × ℕ). is_data n v.0) (sym (wire_number x test)) ∙ none in
        or_left (is_bit_wire n x) (is_some (the_before x)) (both_true (nat_lt x (length n.wires)) (not (is_data n x)) test (not_false (is_data n x) own))
    | inr past ↦
        or_right (is_bit_wire n x) (is_some (the_before x))
        (ap (λ b. is_some (cond b ((wired n all ok all_ok of_all plan s are).before x) None)) (not_false (is_data n (the_source x).0) none) ∙ (wired n all ok all_ok of_all plan s are).numbers.tied x past within)
  ]

  copy_is : (x y : ℕ) → the_before x ≡ Some y → (is_bit_wire n x ≡ false) × (is_number scope the_before y ≡ true)
  copy_is x y is = (no_wire, bit_number y linked bits)
    where
      old : (is_bit n (the_source x).0 ≡ true) × ((wired n all ok all_ok of_all plan s are).before x ≡ Some y)
      old = old_before (is_bit n) plan.wired.wiring.wires.items plan.wired.wiring.next.items s.copies.next.items are.bits.next (wired n all ok all_ok of_all plan s are).source (wired n all ok all_ok of_all plan s are).origins
          (wired n all ok all_ok of_all plan s are).before (wired n all ok all_ok of_all plan s are).numbers.chained x y is

      no_wire : is_bit_wire n x ≡ false
      no_wire = elim (cases_lt x (length n.wires)) as (λ _. is_bit_wire n x ≡ false) [
        | inl low ↦ absurd (none-some y (sym ((wired n all ok all_ok of_all plan s are).numbers.first x low) ∙ old.1))
        | inr past ↦ (let test : nat_lt x (length n.wires) ≡ false = grind (arith, nat_tests) in ap (λ b. b && not (is_data n x)) test)
      ]

      bits : is_data n (the_source y).0 ≡ false
      bits = ap (is_data n) (sym ((wired n all ok all_ok of_all plan s are).numbers.chained.wire x y old.1)) ∙ false_when (is_data n (the_source x).0) old.0

      linked : y < length plan.wired.wiring.next.items
      linked = elim (cases_lt y (length plan.wired.wiring.next.items)) as (λ _. y < length plan.wired.wiring.next.items) [
        | inl low ↦ low
        | inr past ↦
            absurd (none-some x (sym (ap (λ (p : OutputPort). p.wire) (get_or_past plan.wired.wiring.next.items y no_port past)) ∙ (wired n all ok all_ok of_all plan s are).numbers.chained.first x y old.1))
      ]

  -- the numbers that a module of width 1 reads
  reads_bits : (xs : List ℕ) (is : List Input) → map the_source xs ≡ map source_of is → ((k : ℕ) (e : Input) → k < length is → is_data n (slice_index_or is k e).wire.0 ≡ false) →
      (k e : ℕ) → k < length xs → is_data n (the_source (slice_index_or xs k e)).0 ≡ false
  reads_bits xs is same none k e within =
      let size : length xs ≡ length is = sym (length-map xs the_source) ∙ ap (length {A = ℕ × ℕ}) same ∙ length-map is source_of in
      let inside : k < length is = omega arith in
      let at : the_source (slice_index_or xs k e) ≡ source_of (slice_index_or is k no_input) =
      sym (get_or-map the_source xs k e (0, 0) within) ∙ ap (λ (l : List (ℕ × ℕ)). slice_index_or l k (0, 0)) same ∙ get_or-map source_of is k no_input (0, 0) inside in
      ap (λ (v : ℕ × ℕ). is_data n v.0) at ∙ none k no_input inside

  pub whole : IsWhole n scope the_before 0
  whole = record {
    source = λ w traced. wire_number w (and_parts (nat_lt w (length n.wires)) (not (is_data n w)) traced).0;
    own = λ w traced. traced;
    other = λ w traced. traced;
    arrived = λ w p m r drives at traced. let some = (slots_of w p m r drives at).some in omega arith;
    copies = copy_is;
    inputs = λ q active k e within.
        let here = active_place q active in
        bit_number (slice_index_or (are.laid.wired.inputs q) k e) ((wired n all ok all_ok of_all plan s are).low q k e within)
        (reads_bits (are.laid.wired.inputs q) here.part.inputs (sources_own q here.part here.stands) (λ j f low. bit_reads n ok q j f here.part here.stands here.bits low) k e within);
  }

  -- ---- where each wire has width 1
  pub evaluated : IsNarrow n → IsEvaluated n 0 s
  evaluated narrow = record {
    scope = scope;
    before = the_before;
    sound = sound_run n all ok all_ok of_all plan s are;
    running = running;
    whole = whole;
    own = λ w u. refl;
    placed = λ m r at.
        ap (λ slot. is_some (seat_of n m slot)) at ∙ ap (λ b. is_some (cond b (Some m) None)) (eq-eqb (module_width n r) 1 (narrow.modules m r at));
    traces = all_bits n narrow;
    waves = waves_long n all ok all_ok of_all plan s are;
  }
