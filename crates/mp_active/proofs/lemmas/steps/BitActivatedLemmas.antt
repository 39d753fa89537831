-- A module of width 1 that has taken its place, and whose wires are ahead, is active.
use Rattle.std.proofs.Common.{◌≡◌, ◌≢◌, ℕ, ◌+◌, ◌<◌, Bool, true, false, List, [], All, Option, Some, None, cond, length, nat_lt, refl, ap, sym, subst, ◌∙◌, arith, get_or-set_same, get_or-set_other}
use Rattle.std.specs.Prelude.{◌==◌, ◌&&◌, slice_index_or, slice_set}
use Rattle.std.proofs.lemmas.Bool.{eqb-false}
use Rattle.std.proofs.lemmas.List.{length-set}
use Rattle.mp_records.specs.declared.module_record.ModuleRecord.{ModuleRecord}
use Rattle.mp_netlist.specs.Circuit.{Circuit, IsCircuit, module_at, module_width}
use Rattle.mp_netlist.specs.Drivers.{driver}
use Rattle.mp_model.specs.Levels.{built}
use Rattle.mp_model.specs.Waves.{state}
use Rattle.mp_model.proofs.SlotLemmas.{slot_within}
use Rattle.mp_modules.specs.declared.automata.automaton_state.AutomatonState.{AutomatonState}
use Rattle.mp_modules.specs.declared.automata.port_levels.PortLevels.{PortLevels}
use Rattle.mp_modules.specs.automata.Automata.{automaton_of}
use Rattle.mp_modules.specs.automata.Phases.{phase_of}
use Rattle.mp_modules.specs.automata.Codes.{bit, state_code, no_events}
use Rattle.mp_modules.specs.automata.PortLevels.{levels_code}
use Rattle.mp_simulation.specs.declared.bits.simulation.Simulation.{Simulation}
use Rattle.mp_simulation.specs.declared.bits.simulator.Simulator.{Simulator}
use Rattle.mp_simulation.specs.bits.Changes.{change_at}
use Rattle.mp_simulation.specs.bits.Simulators.{slot_at, AreBelow}
use Rattle.mp_kernel.specs.declared.events.output_ports.OutputPorts.{OutputPorts}
use Rattle.mp_kernel.specs.events.Adding.{state_at, listed}
use Rattle.mp_kernel.specs.events.Firing.{HaveSlots, ports_at}
use Rattle.mp_kernel.specs.events.LevelFlips.{levels_at}
use Rattle.mp_kernel.specs.declared.datapath.level_change.LevelChange.{LevelChange}
use Rattle.mp_kernel.specs.datapath.DataFiring.{place_at, module_at as data_module_at, ArePlaced}
use Rattle.mp_kernel.specs.datapath.DataModules.{CanFire}
use Rattle.mp_simulation.specs.declared.units.data_modules.DataModules.{DataModules}
use Rattle.mp_simulation.specs.declared.units.data_wires.DataWires.{DataWires}
use Rattle.mp_simulation.specs.declared.units.netlist_simulation.NetlistSimulation.{NetlistSimulation}
use Rattle.mp_simulation.specs.units.DataLevels.{is_data, is_bit_wire, changes_of}
use Rattle.mp_simulation.specs.units.DataWheels.{data_slot, driver_delay, AreChangesBelow}
use Rattle.mp_active.specs.excerpt.Numberings.{Numbering}
use Rattle.mp_active.specs.excerpt.Levels.{AreLevelsShown}
use Rattle.mp_active.specs.excerpt.Showing.{IsSeatShown, Shows}
use Rattle.mp_active.specs.excerpt.Leaving.{is_port_of}
use Rattle.mp_active.specs.excerpt.Activating.{IsBitModuleActivated, IsActivated}
use Rattle.mp_active.specs.steps.Seating.{IsBitSeated}
use Rattle.mp_active.specs.steps.Ahead.{is_known, AreAhead}
use Rattle.mp_active.specs.steps.Activated.{IsWired, BitModulesActivate}
use Rattle.mp_active.proofs.lemmas.excerpt.TestLemmas.{swapped}

-- what a slot has, with the wires told by their drivers
pub told : (n : Circuit) (m t w k : ℕ) (b own kind : Bool) (new was old : ℕ) → b ≡ own → was ≡ old → new ≡ cond b (bit (is_known n t w k && kind)) was →
    new ≡ cond own (bit ((change_at n w (t + 1 + k) && kind) && nat_lt k (driver_delay n (driver n w)))) old
told n m t w k b own kind new was old same kept is =
    is ∙ ap (λ b. cond b (bit (is_known n t w k && kind)) was) same
    ∙ ap (λ x. cond own (bit (is_known n t w k && kind)) x) kept
    ∙ ap (λ x. cond own (bit x) old) (swapped (change_at n w (t + 1 + k)) (nat_lt k (driver_delay n (driver n w))) kind)

-- a module that isn't active has no place among those with data
pub no_seat : (n : Circuit) (active on : ℕ → Bool) (numbering : Numbering) (m t : ℕ) (s : NetlistSimulation) → active m ≡ false → Shows n active on numbering t s → place_at s.modules.places.items m ≡ None
no_seat n active on numbering m t s resting shown = by (place_at s.modules.places.items m) refl
  where
    by : (o : Option ℕ) → place_at s.modules.places.items m ≡ o → o ≡ None
    by None is = refl
    by (Some k) is = let no : ⊥ = (let awake = (shown.modules.seats m k is).awake in let never = sym resting ∙ awake in cc) in absurd no

module _ (n : Circuit) (ok : IsCircuit n) (active on : ℕ → Bool) (numbering : Numbering) (m t : ℕ) (r : ModuleRecord) (wires : ℕ → Bool) (s mid new : NetlistSimulation)
    (at : module_at n m ≡ Some r) (resting : active m ≡ false) (narrow : (module_width n r == 1) ≡ true) (driven : (w : ℕ) → wires w ≡ is_port_of m (driver n w))
    (shown : Shows n active on numbering t s) (wired : IsWired n numbering m r s) (seat : IsBitSeated m (built n r) (state n m t) s mid) (ahead : AreAhead n numbering t wires mid new) where
  low : m < length s.bits.simulator.states.items
  low = let same = shown.bits.places in let here = slot_within n.modules m r at in omega (arith, same, here)

  mid_wheel : mid.bits.simulator.wheel ≡ s.bits.simulator.wheel
  mid_wheel = ap (λ (b : Simulation). b.simulator.wheel) seat.bits

  mid_changes : mid.wires.wheel ≡ s.wires.wheel
  mid_changes = ap (λ (w : DataWires). w.wheel) seat.wires

  same_states : new.bits.simulator.states ≡ mid.bits.simulator.states
  same_states = ap (λ (b : Simulation). b.simulator.states) ahead.bits

  same_levels : new.bits.simulator.levels ≡ mid.bits.simulator.levels
  same_levels = ap (λ (b : Simulation). b.simulator.levels) ahead.bits

  same_outputs : new.bits.simulator.outputs ≡ s.bits.simulator.outputs
  same_outputs = ap (λ (b : Simulation). b.simulator.outputs) ahead.bits ∙ ap (λ (b : Simulation). b.simulator.outputs) seat.bits

  abbrev own_state : AutomatonState
  own_state = record { 0 = state_code (automaton_of (built n r)) (phase_of (built n r) (state n m t)) no_events }

  abbrev own_levels : PortLevels
  own_levels = record { 0 = levels_code (state n m t) }

  states_are : new.bits.simulator.states.items ≡ slice_set s.bits.simulator.states.items m own_state
  states_are = ap (λ x. x.items) same_states ∙ seat.states

  levels_are : new.bits.simulator.levels.items ≡ slice_set s.bits.simulator.levels.items m own_levels
  levels_are = ap (λ x. x.items) same_levels ∙ seat.levels

  simulator_is : new.bits.simulator ≡ record (s.bits.simulator) {
    outputs = new.bits.simulator.outputs;
    states = new.bits.simulator.states;
    levels = new.bits.simulator.levels;
    wheel = new.bits.simulator.wheel;
  }
  simulator_is =
      ap (λ (b : Simulation). b.simulator) ahead.bits
      ∙ ap (λ (b : Simulation). (let x : Simulator = record (b.simulator) { wheel = new.bits.simulator.wheel } in x)) seat.bits
      ∙ ap (λ o. (let x : Simulator = record (s.bits.simulator) { outputs = o; states = mid.bits.simulator.states; levels = mid.bits.simulator.levels; wheel = new.bits.simulator.wheel } in x)) (sym same_outputs)
      ∙ ap (λ o. (let x : Simulator = record (s.bits.simulator) { outputs = new.bits.simulator.outputs; states = o; levels = mid.bits.simulator.levels; wheel = new.bits.simulator.wheel } in x)) (sym same_states)
      ∙ ap (λ o. (let x : Simulator = record (s.bits.simulator) { outputs = new.bits.simulator.outputs; states = new.bits.simulator.states; levels = o; wheel = new.bits.simulator.wheel } in x)) (sym same_levels)

  levels_low : m < length s.bits.simulator.levels.items
  levels_low = let same = shown.bits.sound.simulator.levels in let here = low in omega (arith, same, here)

  seat_shown : IsSeatShown n numbering t m r new.bits.simulator
  seat_shown = record {
    reads = wired.reads;
    numbers = wired.numbers;
    drives = ap (λ (xs : List OutputPorts). ports_at xs m) same_outputs ∙ wired.drives;
    word = ap (λ (xs : List AutomatonState). state_at xs m) states_are ∙ ap (λ (x : AutomatonState). x.0) (get_or-set_same s.bits.simulator.states.items m own_state (record { 0 = 0 }) low);
    levels = ap (λ (xs : List PortLevels). levels_at xs m) levels_are ∙ ap (λ (x : PortLevels). x.0) (get_or-set_same s.bits.simulator.levels.items m own_levels (record { 0 = 0 }) levels_low);
  }

  is_other : (q : ℕ) → (q == m) ≡ false → q ≢ m
  is_other q other = eqb-false q m other

  bit_module : IsBitModuleActivated n numbering m t r s new
  bit_module = record {
    simulator = simulator_is;
    states = ap (length {A = AutomatonState}) states_are ∙ length-set s.bits.simulator.states.items m own_state;
    levels = ap (length {A = PortLevels}) levels_are ∙ length-set s.bits.simulator.levels.items m own_levels;
    outputs = ap (length {A = OutputPorts}) same_outputs;
    units = ahead.units ∙ ap (length {A = List ℕ}) mid_wheel;
    slots = subst (λ (xs : List OutputPorts). All (HaveSlots (length s.bits.simulator.wheel)) xs) (sym same_outputs) shown.bits.sound.simulator.within;
    driven = subst (λ (xs : List OutputPorts). All (AreBelow (length s.bits.simulator.waves)) xs) (sym same_outputs) shown.bits.sound.simulator.driven;
    seat = λ is. seat_shown;
    sleeps = λ wide. let no : ⊥ = (let never = sym narrow ∙ wide in cc) in absurd no;
    other_states = λ q other. ap (λ (xs : List AutomatonState). state_at xs q) states_are ∙ ap (λ (x : AutomatonState). x.0) (get_or-set_other s.bits.simulator.states.items m q own_state (record { 0 = 0 }) (is_other q other));
    other_levels = λ q other. ap (λ (xs : List PortLevels). levels_at xs q) levels_are ∙ ap (λ (x : PortLevels). x.0) (get_or-set_other s.bits.simulator.levels.items m q own_levels (record { 0 = 0 }) (is_other q other));
    other_outputs = λ q other. ap (λ (xs : List OutputPorts). ports_at xs q) same_outputs;
    room = wired.room;
    events = λ w k within.
        told n m t w k (wires w) (is_port_of m (driver n w)) (is_bit_wire n w) (listed w (slot_at new.bits.simulator k)) (listed w (slot_at mid.bits.simulator k)) (listed w (slot_at s.bits.simulator k)) (driven w)
        (ap (λ (wheel : List (List ℕ)). listed w (slice_index_or wheel k [])) mid_wheel)
        (ahead.events w k (subst (λ (wheel : List (List ℕ)). k < length wheel) (sym mid_wheel) within));
  }

  modules_are : new.modules ≡ s.modules
  modules_are = ahead.modules ∙ seat.modules

  activated : IsActivated n active numbering m t r s new
  activated = record {
    bits = bit_module;
    copies = ap (λ (b : Simulation). b.copies) ahead.bits ∙ ap (λ (b : Simulation). b.copies) seat.bits;
    wires = ahead.others ∙ ap (λ (w : DataWires). (let x : DataWires = record w { wheel = new.wires.wheel } in x)) seat.wires;
    change_units = ahead.change_units ∙ ap (length {A = List LevelChange}) mid_changes;
    changes = λ x k low within.
        told n m t x k (wires x) (is_port_of m (driver n x)) (is_data n x) (changes_of x (data_slot new.wires.wheel k)) (changes_of x (data_slot mid.wires.wheel k)) (changes_of x (data_slot s.wires.wheel k)) (driven x)
        (ap (λ (wheel : List (List LevelChange)). changes_of x (data_slot wheel k)) mid_changes)
        (ahead.changes x k (subst (λ (wheel : List (List LevelChange)). k < length wheel) (sym mid_changes) within));
    numbered = ahead.numbered (length s.bits.simulator.fanout) (let rows = shown.bits.sound.simulator.rows in let same = shown.bits.wires in omega (arith, rows, same))
        (subst (λ (wheel : List (List LevelChange)). AreChangesBelow (length s.bits.simulator.fanout) wheel) (sym mid_changes) shown.wires.numbered);
    change_levels = ahead.levels (subst (λ (wheel : List (List LevelChange)). AreLevelsShown n numbering t wheel) (sym mid_changes) shown.wires.change_levels);
    places = ap (λ (x : DataModules). length x.places.items) modules_are;
    placed = subst (λ (x : DataModules). ArePlaced x.places.items (length x.modules.items)) (sym modules_are) shown.modules.placed;
    fit = subst (λ (x : DataModules). All (CanFire (length s.bits.simulator.fanout) (length s.bits.simulator.wheel) (length s.wires.wheel)) x.modules.items) (sym modules_are) shown.modules.fit;
    no_place = λ is. ap (λ (x : DataModules). place_at x.places.items m) modules_are ∙ no_seat n active on numbering m t s resting shown;
    data_seat = λ wide. let no : ⊥ = (let never = sym narrow ∙ wide in cc) in absurd no;
    other_places = λ q other. ap (λ (x : DataModules). place_at x.places.items q) modules_are;
    other_modules = λ q k other is. ap (λ (x : DataModules). data_module_at x.modules.items k) modules_are;
  }

pub bit_modules_activate : BitModulesActivate
bit_modules_activate = activated
