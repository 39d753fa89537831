-- A module with data that has taken its place, and whose wires are ahead, is active.
use Rattle.std.proofs.Common.{◌≡◌, ◌≢◌, ℕ, ◌<◌, ◌≤◌, Bool, true, false, List, [], ◌∷◌, All, Option, Some, None, length, refl, ap, sym, subst, ◌∙◌, arith, inl, inr, get_or-set_same, get_or-set_other}
use Rattle.std.specs.Prelude.{◌==◌, slice_index_or, slice_set}
use Rattle.std.proofs.lemmas.Bool.{cases_Bool, eqb-true, eqb-false}
use Rattle.std.proofs.lemmas.List.{length-set, length-append, get_or_append_left, get_or_push}
use Rattle.std.proofs.lemmas.List.Elements.{All-push, All-set}
use Rattle.std.proofs.lemmas.Option.{same_Some}
use Rattle.mp_records.specs.declared.module_record.ModuleRecord.{ModuleRecord}
use Rattle.mp_netlist.specs.Circuit.{Circuit, IsCircuit, module_at, module_width}
use Rattle.mp_netlist.specs.Drivers.{driver}
use Rattle.mp_model.proofs.SlotLemmas.{slot_within}
use Rattle.mp_simulation.specs.declared.bits.simulation.Simulation.{Simulation}
use Rattle.mp_simulation.specs.declared.bits.simulator.Simulator.{Simulator}
use Rattle.mp_simulation.specs.bits.Simulators.{slot_at, AreBelow}
use Rattle.mp_kernel.specs.declared.events.output_ports.OutputPorts.{OutputPorts}
use Rattle.mp_kernel.specs.events.Adding.{state_at, listed}
use Rattle.mp_kernel.specs.events.Firing.{HaveSlots, ports_at}
use Rattle.mp_kernel.specs.events.LevelFlips.{levels_at}
use Rattle.mp_kernel.specs.declared.datapath.level_change.LevelChange.{LevelChange}
use Rattle.mp_kernel.specs.declared.datapath.data_module.DataModule.{DataModule}
use Rattle.mp_kernel.specs.datapath.DataFiring.{no_module, place_at, module_at as data_module_at, ArePlaced}
use Rattle.mp_kernel.specs.datapath.DataModules.{CanFire}
use Rattle.mp_simulation.specs.declared.units.data_modules.DataModules.{DataModules}
use Rattle.mp_simulation.specs.declared.units.data_wires.DataWires.{DataWires}
use Rattle.mp_simulation.specs.declared.units.netlist_simulation.NetlistSimulation.{NetlistSimulation}
use Rattle.mp_simulation.specs.units.DataSeats.{IsDataSeat}
use Rattle.mp_simulation.specs.units.DataLevels.{is_data, is_bit_wire, changes_of}
use Rattle.mp_simulation.specs.units.DataWheels.{data_slot, AreChangesBelow}
use Rattle.mp_active.specs.excerpt.Numberings.{Numbering, place_of, place_in, scope_of}
use Rattle.mp_active.specs.excerpt.Levels.{AreLevelsShown}
use Rattle.mp_active.specs.excerpt.Showing.{IsAsleep, Shows}
use Rattle.mp_active.specs.excerpt.Leaving.{is_port_of}
use Rattle.mp_active.specs.excerpt.Activating.{with_module, IsDataSeated, IsBitModuleActivated, IsActivated}
use Rattle.mp_active.specs.steps.Seating.{seated, seat_in, HasTakenSeat}
use Rattle.mp_active.specs.steps.Ahead.{AreAhead}
use Rattle.mp_active.specs.steps.Activated.{CanTakeSeat, DataModulesActivate}
use Rattle.mp_active.proofs.lemmas.steps.BitActivatedLemmas.{told}

-- ---- the modules with one more
place_low : (xs : List DataModule) (seat : Option ℕ) (part : DataModule) → ((k : ℕ) → seat ≡ Some k → k < length xs) → seat_in xs seat < length (seated xs seat part)
place_low xs None part within = let long = length-append xs (part ∷ []) in omega (arith, long)
place_low xs (Some k) part within = let low = within k refl in let long = length-set xs k part in omega (arith, low, long)

no_fewer : (xs : List DataModule) (seat : Option ℕ) (part : DataModule) → length xs ≤ length (seated xs seat part)
no_fewer xs None part = let long = length-append xs (part ∷ []) in omega (arith, long)
no_fewer xs (Some k) part = let long = length-set xs k part in omega (arith, long)

own_there : (xs : List DataModule) (seat : Option ℕ) (part : DataModule) → ((k : ℕ) → seat ≡ Some k → k < length xs) → data_module_at (seated xs seat part) (seat_in xs seat) ≡ part
own_there xs None part within = get_or_push xs part no_module (length xs) refl
own_there xs (Some k) part within = get_or-set_same xs k part no_module (within k refl)

-- no other module has that place
place_other : (xs : List DataModule) (seat : Option ℕ) (k : ℕ) → k < length xs → (seat ≡ Some k → ⊥) → seat_in xs seat ≢ k
place_other xs None k low free = λ e. omega (arith, low, e)
place_other xs (Some j) k low free = λ e. free (ap (λ (i : ℕ). Some i) e)

other_there : (xs : List DataModule) (seat : Option ℕ) (part : DataModule) (k : ℕ) → k < length xs → (seat ≡ Some k → ⊥) → data_module_at (seated xs seat part) k ≡ data_module_at xs k
other_there xs None part k low free = get_or_append_left xs (part ∷ []) no_module k low
other_there xs (Some j) part k low free = get_or-set_other xs j k part no_module (λ e. free (ap (λ (i : ℕ). Some i) (sym e)))

all_seated : (P : DataModule → Type 0) (xs : List DataModule) (seat : Option ℕ) (part : DataModule) → All P xs → P part → All P (seated xs seat part)
all_seated P xs None part all own = All-push P xs part all own
all_seated P xs (Some k) part all own = All-set P xs k part own all

module _ (n : Circuit) (ok : IsCircuit n) (active on : ℕ → Bool) (numbering : Numbering) (m t : ℕ) (r : ModuleRecord) (seat : Option ℕ) (part : DataModule) (place : ℕ) (wires : ℕ → Bool)
    (s mid new : NetlistSimulation) (at : module_at n m ≡ Some r) (resting : active m ≡ false) (wide : (module_width n r == 1) ≡ false) (driven : (w : ℕ) → wires w ≡ is_port_of m (driver n w))
    (shown : Shows n active on numbering t s) (can : CanTakeSeat n active numbering m t r seat part s) (taken : HasTakenSeat m seat part place s mid) (ahead : AreAhead n numbering t wires mid new) where
  abbrev old_places : List (Option ℕ)
  old_places = s.modules.places.items

  abbrev old_modules : List DataModule
  old_modules = s.modules.modules.items

  low : m < length old_places
  low = let same = shown.modules.long in let here = slot_within n.modules m r at in omega (arith, same, here)

  mid_wheel : mid.bits.simulator.wheel ≡ s.bits.simulator.wheel
  mid_wheel = ap (λ (b : Simulation). b.simulator.wheel) taken.bits

  mid_changes : mid.wires.wheel ≡ s.wires.wheel
  mid_changes = ap (λ (w : DataWires). w.wheel) taken.wires

  same_states : new.bits.simulator.states ≡ s.bits.simulator.states
  same_states = ap (λ (b : Simulation). b.simulator.states) ahead.bits ∙ ap (λ (b : Simulation). b.simulator.states) taken.bits

  same_levels : new.bits.simulator.levels ≡ s.bits.simulator.levels
  same_levels = ap (λ (b : Simulation). b.simulator.levels) ahead.bits ∙ ap (λ (b : Simulation). b.simulator.levels) taken.bits

  same_outputs : new.bits.simulator.outputs ≡ s.bits.simulator.outputs
  same_outputs = ap (λ (b : Simulation). b.simulator.outputs) ahead.bits ∙ ap (λ (b : Simulation). b.simulator.outputs) taken.bits

  same_fanout : new.bits.simulator.fanout ≡ s.bits.simulator.fanout
  same_fanout = ap (λ (b : Simulation). b.simulator.fanout) ahead.bits ∙ ap (λ (b : Simulation). b.simulator.fanout) taken.bits

  places_are : new.modules.places.items ≡ slice_set old_places m (Some place)
  places_are = ap (λ (x : DataModules). x.places.items) ahead.modules ∙ taken.places

  modules_are : new.modules.modules.items ≡ seated old_modules seat part
  modules_are = ap (λ (x : DataModules). x.modules.items) ahead.modules ∙ taken.modules

  simulator_is : new.bits.simulator ≡ record (s.bits.simulator) {
    outputs = new.bits.simulator.outputs;
    states = new.bits.simulator.states;
    levels = new.bits.simulator.levels;
    wheel = new.bits.simulator.wheel;
  }
  simulator_is =
      ap (λ (b : Simulation). b.simulator) ahead.bits
      ∙ ap (λ (b : Simulation). (let x : Simulator = record (b.simulator) { wheel = new.bits.simulator.wheel } in x)) taken.bits
      ∙ ap (λ o. (let x : Simulator = record (s.bits.simulator) { outputs = o; wheel = new.bits.simulator.wheel } in x)) (sym same_outputs)
      ∙ ap (λ o. (let x : Simulator = record (s.bits.simulator) { outputs = new.bits.simulator.outputs; states = o; wheel = new.bits.simulator.wheel } in x)) (sym same_states)
      ∙ ap (λ o. (let x : Simulator = record (s.bits.simulator) { outputs = new.bits.simulator.outputs; states = new.bits.simulator.states; levels = o; wheel = new.bits.simulator.wheel } in x)) (sym same_levels)

  no_place : place_of n active m ≡ None
  no_place = ap (λ b. place_in n b m (module_at n m)) resting ∙ ap (place_in n false m) at

  sleeps : IsAsleep (state_at new.bits.simulator.states.items m)
  sleeps = subst IsAsleep (ap (λ x. state_at x.items m) (sym same_states)) (shown.bits.asleep m (slot_within n.modules m r at) no_place)

  units_are : length new.bits.simulator.wheel ≡ length s.bits.simulator.wheel
  units_are = ahead.units ∙ ap (length {A = List ℕ}) mid_wheel

  change_units_are : length new.wires.wheel ≡ length s.wires.wheel
  change_units_are = ahead.change_units ∙ ap (length {A = List LevelChange}) mid_changes

  bit_module : IsBitModuleActivated n numbering m t r s new
  bit_module = record {
    simulator = simulator_is;
    states = ap (λ x. length x.items) same_states;
    levels = ap (λ x. length x.items) same_levels;
    outputs = ap (length {A = OutputPorts}) same_outputs;
    units = units_are;
    slots = subst (λ (xs : List OutputPorts). All (HaveSlots (length s.bits.simulator.wheel)) xs) (sym same_outputs) shown.bits.sound.simulator.within;
    driven = subst (λ (xs : List OutputPorts). All (AreBelow (length s.bits.simulator.waves)) xs) (sym same_outputs) shown.bits.sound.simulator.driven;
    seat = λ narrow. let no : ⊥ = (let never = sym narrow ∙ wide in cc) in absurd no;
    sleeps = λ is. sleeps;
    other_states = λ q other. ap (λ x. state_at x.items q) same_states;
    other_levels = λ q other. ap (λ x. levels_at x.items q) same_levels;
    other_outputs = λ q other. ap (λ (xs : List OutputPorts). ports_at xs q) same_outputs;
    room = can.room;
    events = λ w k within.
        told n m t w k (wires w) (is_port_of m (driver n w)) (is_bit_wire n w) (listed w (slot_at new.bits.simulator k)) (listed w (slot_at mid.bits.simulator k)) (listed w (slot_at s.bits.simulator k)) (driven w)
        (ap (λ (wheel : List (List ℕ)). listed w (slice_index_or wheel k [])) mid_wheel)
        (ahead.events w k (subst (λ (wheel : List (List ℕ)). k < length wheel) (sym mid_wheel) within));
  }

  -- ---- places
  own_place : place_at new.modules.places.items m ≡ Some place
  own_place = ap (λ (xs : List (Option ℕ)). place_at xs m) places_are ∙ get_or-set_same old_places m (Some place) None low

  else_place : (q : ℕ) → (q == m) ≡ false → place_at new.modules.places.items q ≡ place_at old_places q
  else_place q other = ap (λ (xs : List (Option ℕ)). place_at xs q) places_are ∙ get_or-set_other old_places m q (Some place) None (eqb-false q m other)

  below_old : (q k : ℕ) → place_at old_places q ≡ Some k → k < length old_modules
  below_old q k is = shown.modules.placed.below q k is

  apart : (q k : ℕ) → place_at old_places q ≡ Some k → place ≢ k
  apart q k is = λ e. place_other old_modules seat k (below_old q k is) (λ own. can.free q k own is) (sym taken.place ∙ e)

  here_is : (q k : ℕ) → (q == m) ≡ true → place_at new.modules.places.items q ≡ Some k → place ≡ k
  here_is q k here is = same_Some place k (sym own_place ∙ sym (ap (place_at new.modules.places.items) (eqb-true q m here)) ∙ is)

  placed : ArePlaced new.modules.places.items (length new.modules.modules.items)
  placed = record {
    below = λ q k is. subst (λ (xs : List DataModule). k < length xs) (sym modules_are) (elim (cases_Bool (q == m)) as (λ _. k < length (seated old_modules seat part)) [
      | inl here ↦ let e = here_is q k here is in let own = taken.place in let within = place_low old_modules seat part can.within in omega (arith, e, own, within)
      | inr other ↦ let within = below_old q k (sym (else_place q other) ∙ is) in let more = no_fewer old_modules seat part in omega (arith, within, more)
    ]);
    own = λ q p k one two. elim (cases_Bool (q == m)) as (λ _. q ≡ p) [
      | inl here ↦ elim (cases_Bool (p == m)) as (λ _. q ≡ p) [
        | inl too ↦ eqb-true q m here ∙ sym (eqb-true p m too)
        | inr other ↦ absurd (apart p k (sym (else_place p other) ∙ two) (here_is q k here one))
      ]
      | inr else ↦ elim (cases_Bool (p == m)) as (λ _. q ≡ p) [
        | inl here ↦ absurd (apart q k (sym (else_place q else) ∙ one) (here_is p k here two))
        | inr other ↦ shown.modules.placed.own q p k (sym (else_place q else) ∙ one) (sym (else_place p other) ∙ two)
      ]
    ];
  }

  own_module : data_module_at new.modules.modules.items place ≡ part
  own_module = ap (λ (xs : List DataModule). data_module_at xs place) modules_are ∙ ap (data_module_at (seated old_modules seat part)) taken.place ∙ own_there old_modules seat part can.within

  data_seat : IsDataSeated n (with_module active m) numbering m t new
  data_seat = record {
    number = place;
    place = own_place;
    seat = subst (λ (d : DataModule). IsDataSeat n (scope_of n (with_module active m) numbering t) (length new.bits.simulator.fanout) (length new.bits.simulator.wheel) (length new.wires.wheel) t m d) (sym own_module)
        (subst (λ k. IsDataSeat n (scope_of n (with_module active m) numbering t) k (length new.bits.simulator.wheel) (length new.wires.wheel) t m part) (sym (ap (λ rows. length rows) same_fanout))
        (subst (λ k. IsDataSeat n (scope_of n (with_module active m) numbering t) (length s.bits.simulator.fanout) k (length new.wires.wheel) t m part) (sym units_are)
        (subst (λ k. IsDataSeat n (scope_of n (with_module active m) numbering t) (length s.bits.simulator.fanout) (length s.bits.simulator.wheel) k t m part) (sym change_units_are) can.is)));
  }

  activated : IsActivated n active numbering m t r s new
  activated = record {
    bits = bit_module;
    copies = ap (λ (b : Simulation). b.copies) ahead.bits ∙ ap (λ (b : Simulation). b.copies) taken.bits;
    wires = ahead.others ∙ ap (λ (w : DataWires). (let x : DataWires = record w { wheel = new.wires.wheel } in x)) taken.wires;
    change_units = change_units_are;
    changes = λ x k low within.
        told n m t x k (wires x) (is_port_of m (driver n x)) (is_data n x) (changes_of x (data_slot new.wires.wheel k)) (changes_of x (data_slot mid.wires.wheel k)) (changes_of x (data_slot s.wires.wheel k)) (driven x)
        (ap (λ (wheel : List (List LevelChange)). changes_of x (data_slot wheel k)) mid_changes)
        (ahead.changes x k (subst (λ (wheel : List (List LevelChange)). k < length wheel) (sym mid_changes) within));
    numbered = ahead.numbered (length s.bits.simulator.fanout) (let rows = shown.bits.sound.simulator.rows in let same = shown.bits.wires in omega (arith, rows, same))
        (subst (λ (wheel : List (List LevelChange)). AreChangesBelow (length s.bits.simulator.fanout) wheel) (sym mid_changes) shown.wires.numbered);
    change_levels = ahead.levels (subst (λ (wheel : List (List LevelChange)). AreLevelsShown n numbering t wheel) (sym mid_changes) shown.wires.change_levels);
    places = ap (length {A = Option ℕ}) places_are ∙ length-set old_places m (Some place);
    placed = placed;
    fit = subst (λ (xs : List DataModule). All (CanFire (length s.bits.simulator.fanout) (length s.bits.simulator.wheel) (length s.wires.wheel)) xs) (sym modules_are)
        (all_seated (CanFire (length s.bits.simulator.fanout) (length s.bits.simulator.wheel) (length s.wires.wheel)) old_modules seat part shown.modules.fit can.is.fit);
    no_place = λ narrow. let no : ⊥ = (let never = sym narrow ∙ wide in cc) in absurd no;
    data_seat = λ is. data_seat;
    other_places = else_place;
    other_modules = λ q k other is.
        ap (λ (xs : List DataModule). data_module_at xs k) modules_are ∙ other_there old_modules seat part k (below_old q k is) (λ own. can.free q k own is);
  }

pub data_modules_activate : DataModulesActivate
data_modules_activate = activated
