-- What a simulation of a netlist begins with can go on.
use Rattle.std.proofs.Common.{◌≡◌, ℕ, ◌+◌, ◌%◌, ◌<◌, ◌≤◌, Bool, true, false, cond, List, [], Option, Some, None, All, length, map, refl, sym, ap, ◌∙◌, arith, subst, inl, inr}
use Rattle.std.specs.Prelude.{◌&&◌, slice_index_or}
use Rattle.std.proofs.lemmas.Bool.{cases_lt, eq-eqb}
use Rattle.std.proofs.lemmas.List.{get_or_past, length-map}
use Rattle.std.proofs.lemmas.List.Elements.{All-from_get_or}
use Rattle.std.proofs.lemmas.Option.{none-some}
use Rattle.mp_wave.specs.Waveform.{Waveform}
use Rattle.mp_records.specs.declared.module_record.ModuleRecord.{ModuleRecord}
use Rattle.mp_netlist.specs.Circuit.{Circuit, IsCircuit, module_at}
use Rattle.mp_netlist.specs.Drivers.{driver}
use Rattle.mp_netlist.proofs.DriverLemmas.{leaves_no_driver}
use Rattle.mp_model.proofs.SlotLemmas.{slot_within}
use Rattle.mp_modules.specs.declared.automata.automaton_state.AutomatonState.{AutomatonState}
use Rattle.mp_modules.specs.automata.Codes.{bit, events_code}
use Rattle.mp_kernel.specs.declared.events.fanout_entry.FanoutEntry.{FanoutEntry}
use Rattle.mp_kernel.specs.declared.events.output_ports.OutputPorts.{OutputPorts}
use Rattle.mp_kernel.specs.events.Adding.{state_at, listed, IsAdding}
use Rattle.mp_kernel.specs.events.Toggling.{row_at}
use Rattle.mp_kernel.specs.events.Firing.{HaveSlots, no_port}
use Rattle.mp_simulation.specs.bits.Units.{rest_state_at}
use Rattle.mp_simulation.specs.bits.Simulators.{slot_at, IsBelow, AreBelow, IsSound}
use Rattle.mp_simulation.specs.bits.Simulations.{IsFrom, AreSoundCopies, IsSoundRun}
use Rattle.mp_simulation.proofs.lemmas.bits.NumberLemmas.{number_low, events_part}
use Rattle.mp_simulation.specs.declared.bits.simulation.Simulation.{Simulation}
use Rattle.mp_simulation.specs.declared.run.layout.Layout.{Layout}
use Rattle.mp_simulation.specs.run.Widths.{is_bit_module}
use Rattle.mp_simulation.specs.run.FirstLevels.{first_wave}
use Rattle.mp_simulation.specs.run.Numbers.{AreLinks}
use Rattle.mp_simulation.specs.run.Numbering.{is_bit}
use Rattle.mp_simulation.specs.run.Wirings.{AreWired, reading_below}
use Rattle.mp_simulation.specs.run.Settling.{ports_of, no_unit, first_unit_in, first_unit, is_below, is_first_bit}
use Rattle.mp_simulation.specs.run.Beginnings.{IsPartOf, AreBegunBits}
use Rattle.mp_simulation.proofs.lemmas.run.SettlingLemmas.{have_slots, are_below}
use Rattle.mp_simulation.proofs.lemmas.run.NumberingLemmas.{kept_slots, kept_below, kept_from}

none_sum : (w : ℕ) (xs : List ℕ) → xs ≡ [] → listed w xs ≡ 0
none_sum w xs is = ap (listed w) is

quiet_unit : (n : Circuit) (m : ℕ) (slot : Option ModuleRecord) → events_code (first_unit_in n m slot).events ≡ 0
quiet_unit n m None = refl
quiet_unit n m (Some r) = by (is_bit_module n r)
  where
    by : (b : Bool) → events_code (cond b (rest_state_at n r m 0) no_unit).events ≡ 0
    by true = refl
    by false = refl

module _ (n all : Circuit) (ok : IsCircuit n) (all_ok : IsCircuit all) (of_all : IsPartOf n all) (plan : Layout) (s : Simulation) (are : AreBegunBits n all plan s) where
  pub waves_long : length s.simulator.waves ≡ length n.wires
  waves_long = ap (length {A = Waveform}) are.bits.waves ∙ length-map n.wires first_wave

  pub wired : AreWired (length n.wires) (length n.modules) (reading_below all (length all.modules)) are.laid.wired.inputs plan.wired.wiring
  wired =
      subst (λ k. AreWired k (length n.modules) (reading_below all (length all.modules)) are.laid.wired.inputs plan.wired.wiring) (sym of_all.wires)
      (subst (λ k. AreWired (length all.wires) k (reading_below all (length all.modules)) are.laid.wired.inputs plan.wired.wiring) (sym of_all.modules) are.laid.wired.wired.wired)

  -- how many numbers there are
  pub numbers : length s.simulator.fanout ≡ length plan.wired.wiring.next.items
  numbers = ap (length {A = List FanoutEntry}) are.bits.fanout ∙ are.laid.wired.wired.rows

  pub links : (longest : ℕ) → plan.delays.inputs ≤ longest → AreLinks longest plan.wired.wiring.next.items
  links longest high =
      are.laid.wired.wired.links longest (let some = are.laid.some_input in omega arith)
      (λ m r at k e within. let low = (are.laid.within m r (slot_within all.modules m r at) at).inputs k e within in omega arith)

  pub outputs_within : All (HaveSlots (length s.simulator.wheel)) s.simulator.outputs
  outputs_within =
      subst (λ (xs : List OutputPorts). All (HaveSlots (length s.simulator.wheel)) xs) (sym are.bits.outputs)
      (subst (λ k. All (HaveSlots k) (map ports_of all.modules)) (sym are.bits.units) (have_slots all all_ok plan.delays are.laid.within are.laid.some_output))

  state_past : (m : ℕ) → length n.modules ≤ m → state_at s.simulator.states.items m ≡ 0
  state_past m past =
      let places = are.bits.settled.places in
      ap (λ (x : AutomatonState). x.0) (get_or_past s.simulator.states.items m (record { 0 = 0 }) (omega arith))

  quiet_state : (m : ℕ) → state_at s.simulator.states.items m % 16 ≡ 0
  quiet_state m = elim (cases_lt m (length n.modules)) as (λ _. state_at s.simulator.states.items m % 16 ≡ 0) [
    | inl low ↦ ap (λ k. k % 16) (are.bits.settled.each m low) ∙ events_part (first_unit n m) ∙ quiet_unit n m (module_at n m)
    | inr past ↦ ap (λ k. k % 16) (state_past m past)
  ]

  low_state : (m : ℕ) → state_at s.simulator.states.items m < 2112
  low_state m = elim (cases_lt m (length n.modules)) as (λ _. state_at s.simulator.states.items m < 2112) [
    | inl low ↦ let same = are.bits.settled.each m low in let high = number_low (first_unit n m) in omega arith
    | inr past ↦ let same = state_past m past in omega arith
  ]

  adding : IsAdding s.simulator.states.items s.simulator.due.items []
  adding = record {
    placed = λ k d within. absurd (omega arith);
    events = λ k d within. absurd (omega arith);
    low = low_state;
    room = λ m. let quiet = quiet_state m in omega arith;
    once = λ m. ap (listed m) are.bits.due ∙ sym (ap (λ b. cond b 0 1) (eq-eqb (state_at s.simulator.states.items m % 16) 0 (quiet_state m)));
  }

  undriven : (w k : ℕ) → length n.wires ≤ w → bit (is_below (length n.modules) (driver n w) && is_first_bit n (driver n w) w (k + 1)) ≡ 0
  undriven w k past = ap (λ d. bit (is_below (length n.modules) d && is_first_bit n d w (k + 1))) (leaves_no_driver n ok w (get_or_past n.wires w None past))

  none_past : (w k : ℕ) → length n.wires ≤ w → listed w (slot_at s.simulator k) ≡ 0
  none_past w k past = elim (cases_lt k (length s.simulator.wheel)) as (λ _. listed w (slot_at s.simulator k) ≡ 0) [
    | inl low ↦ are.bits.settled.slots w k low ∙ undriven w k past
    | inr beyond ↦ none_sum w (slot_at s.simulator k) (get_or_past s.simulator.wheel k [] beyond)
  ]

  sound_simulator : IsSound s.simulator
  sound_simulator = record {
    units = first_unit n;
    numbered = λ m within. are.bits.settled.each m (let places = are.bits.settled.places in omega arith);
    events = adding;
    levels = are.bits.levels.places ∙ sym are.bits.settled.places;
    outputs = ap (length {A = OutputPorts}) are.bits.outputs ∙ length-map all.modules ports_of ∙ sym of_all.modules ∙ sym are.bits.settled.places;
    rows = let a = waves_long in let b = numbers in let c = wired.numbers.enough in omega arith;
    placed = λ x. subst (λ (rows : List (List FanoutEntry)). All (λ (l : FanoutEntry). l.module < length s.simulator.states.items) (row_at rows x)) (sym are.bits.fanout)
        (subst (λ k. All (λ (l : FanoutEntry). l.module < k) (row_at plan.wired.wiring.rows.items x)) (sym are.bits.settled.places) (wired.placed x));
    eventful = λ x. subst (λ (rows : List (List FanoutEntry)). All (λ (l : FanoutEntry). 0 < l.event) (row_at rows x)) (sym are.bits.fanout) (wired.eventful x);
    some = subst (λ k. 0 < k) (sym are.bits.units) are.laid.some_output;
    within = outputs_within;
    driven = subst (λ k. All (AreBelow k) s.simulator.outputs) (sym of_all.wires ∙ sym waves_long) (subst (λ (xs : List OutputPorts). All (AreBelow (length all.wires)) xs) (sym are.bits.outputs) (are_below all all_ok));
    waved = λ w k past. none_past w k (let a = waves_long in omega arith);
  }

  bit_links : AreLinks (length s.copies.wheel) plan.wired.wiring.next.items
  bit_links = links (length s.copies.wheel) (let units = are.bits.copies in omega arith)

  sound_copies : AreSoundCopies (length s.simulator.fanout) s.copies
  sound_copies = record {
    next = are.bits.next.long ∙ sym numbers;
    some = let units = are.bits.copies in let some = are.laid.some_input in omega arith;
    within = kept_slots (is_bit n) plan.wired.wiring.wires.items plan.wired.wiring.next.items s.copies.next.items are.bits.next (length s.copies.wheel)
        (let units = are.bits.copies in let some = are.laid.some_input in omega arith) bit_links.slots;
    below = kept_below (is_bit n) plan.wired.wiring.wires.items plan.wired.wiring.next.items s.copies.next.items are.bits.next (length s.simulator.fanout)
        (subst (λ k. All (IsBelow k) plan.wired.wiring.next.items) (sym numbers) bit_links.below);
    numbered = λ x k high. none_sum x (slice_index_or s.copies.wheel k []) (are.bits.empty k);
  }

  -- the numbers of copies are behind those of wires
  links_behind : All (IsFrom (length n.wires)) plan.wired.wiring.next.items
  links_behind = All-from_get_or (IsFrom (length n.wires)) plan.wired.wiring.next.items no_port
      (λ y inside x is. elim (cases_lt x (length n.wires)) as (λ _. length n.wires ≤ x) [
        | inl low ↦ absurd (none-some y (sym (wired.numbers.first x low) ∙ wired.numbers.chained.last y x is))
        | inr past ↦ past
      ])

  pub sound_run : IsSoundRun s
  sound_run = record {
    simulator = sound_simulator;
    copies = sound_copies;
    behind = kept_from (is_bit n) plan.wired.wiring.wires.items plan.wired.wiring.next.items s.copies.next.items are.bits.next (length s.simulator.waves)
        (subst (λ k. All (IsFrom k) plan.wired.wiring.next.items) (sym waves_long) links_behind);
  }
