-- Modules that sleep, and whose wires are taken out of the wheels, have left.
use Rattle.std.proofs.Common.{◌≡◌, ℕ, ◌+◌, ◌<◌, Bool, true, false, not, List, [], All, Option, cond, length, refl, ap, sym, subst, ◌∙◌, arith, inl, inr}
use Rattle.std.specs.Prelude.{◌&&◌, slice_index_or}
use Rattle.std.proofs.lemmas.Bool.{cases_lt}
use Rattle.mp_netlist.specs.Circuit.{Circuit, IsCircuit}
use Rattle.mp_netlist.specs.Drivers.{driver}
use Rattle.mp_modules.specs.declared.automata.automaton_state.AutomatonState.{AutomatonState}
use Rattle.mp_modules.specs.declared.automata.automaton.Automaton.TheVariants.{Sleep}
use Rattle.mp_modules.specs.automata.Codes.{no_events}
use Rattle.mp_modules.specs.automata.Phases.{unserved}
use Rattle.mp_simulation.specs.declared.bits.simulation.Simulation.{Simulation}
use Rattle.mp_simulation.specs.declared.bits.simulator.Simulator.{Simulator}
use Rattle.mp_simulation.specs.bits.Changes.{change_at}
use Rattle.mp_simulation.specs.bits.Simulators.{slot_at}
use Rattle.mp_kernel.specs.events.Adding.{state_at, listed}
use Rattle.mp_kernel.specs.declared.datapath.level_change.LevelChange.{LevelChange}
use Rattle.mp_kernel.specs.datapath.DataFiring.{place_at}
use Rattle.mp_simulation.specs.declared.units.data_modules.DataModules.{DataModules}
use Rattle.mp_simulation.specs.declared.units.data_wires.DataWires.{DataWires}
use Rattle.mp_simulation.specs.declared.units.netlist_simulation.NetlistSimulation.{NetlistSimulation}
use Rattle.mp_simulation.specs.units.DataLevels.{is_bit_wire, changes_of, IsLevelAt}
use Rattle.mp_simulation.specs.units.DataWheels.{data_slot}
use Rattle.mp_active.specs.excerpt.Numberings.{Numbering}
use Rattle.mp_active.specs.excerpt.Showing.{IsAsleep, Shows}
use Rattle.mp_active.specs.excerpt.Leaving.{is_port_in, HaveLeft}
use Rattle.mp_active.specs.steps.Sleeping.{ArePutToSleep}
use Rattle.mp_active.specs.steps.Taking.{AreGone, HasTaken, SleepingLeaves}
use Rattle.mp_active.proofs.lemmas.steps.GoneLemmas.{turned, counted_kept, all_filtered, none_later, nothing_resting, no_change, none_changes}

module _ (n : Circuit) (ok : IsCircuit n) (active on : ℕ → Bool) (numbering : Numbering) (leaving gone : ℕ → Bool) (t units : ℕ) (s mid new : NetlistSimulation)
    (are : AreGone n active leaving gone units) (shown : Shows n active on numbering t s) (slept : ArePutToSleep leaving s mid) (taken : HasTaken gone units mid new) where
  mid_wheel : mid.bits.simulator.wheel ≡ s.bits.simulator.wheel
  mid_wheel = ap (λ (b : Simulation). b.simulator.wheel) slept.bits

  mid_changes : mid.wires.wheel ≡ s.wires.wheel
  mid_changes = ap (λ (w : DataWires). w.wheel) slept.wires

  same_states : new.bits.simulator.states ≡ mid.bits.simulator.states
  same_states = ap (λ (b : Simulation). b.simulator.states) taken.bits

  states_are : new.bits.simulator.states.items ≡ mid.bits.simulator.states.items
  states_are = ap (λ x. x.items) same_states

  places_are : new.modules.places.items ≡ mid.modules.places.items
  places_are = ap (λ (x : DataModules). x.places.items) taken.modules

  simulator_is : new.bits.simulator ≡ record (s.bits.simulator) { states = new.bits.simulator.states; wheel = new.bits.simulator.wheel }
  simulator_is =
      ap (λ (b : Simulation). b.simulator) taken.bits
      ∙ ap (λ (b : Simulation). (let x : Simulator = record (b.simulator) { wheel = new.bits.simulator.wheel } in x)) slept.bits
      ∙ ap (λ o. (let x : Simulator = record (s.bits.simulator) { states = o; wheel = new.bits.simulator.wheel } in x)) (sym same_states)

  asleep_by : (q : ℕ) → q < length n.modules → leaving q ≡ true → IsAsleep (state_at new.bits.simulator.states.items q)
  asleep_by q stands is = record {
    unit = record { automaton = Sleep; phase = unserved false false; events = no_events };
    sleeps = refl;
    quiet = refl;
    is = ap (λ (xs : List AutomatonState). state_at xs q) states_are ∙ slept.asleep q (let same = shown.bits.places in omega (arith, same, stands)) is;
  }

  else_kept : (b : Bool) (count : ℕ) → (b ≡ true → count ≡ 0) → count ≡ cond b 0 count
  else_kept true count none = none refl
  else_kept false count none = refl

  same_gone : (goes leaves : Bool) (count : ℕ) → (leaves ≡ true → goes ≡ true) → (goes ≡ true → leaves ≡ false → count ≡ 0) → cond goes 0 count ≡ cond leaves 0 count
  same_gone true true count left none = refl
  same_gone true false count left none = sym (none refl refl)
  same_gone false true count left none = let never = left refl in let no : ⊥ = cc in absurd no
  same_gone false false count left none = refl

  event_left : (w k : ℕ) → k < length s.bits.simulator.wheel → listed w (slot_at new.bits.simulator k) ≡ cond (is_port_in leaving (driver n w)) 0 (listed w (slot_at s.bits.simulator k))
  event_left w k within = elim (cases_lt k units) as (λ _. listed w (slot_at new.bits.simulator k) ≡ cond (is_port_in leaving (driver n w)) 0 (listed w (slot_at s.bits.simulator k))) [
    | inl early ↦
        ap (listed w) (taken.events k early)
        ∙ counted_kept (λ (x : ℕ). x) (λ x. not (gone x)) w (slot_at mid.bits.simulator k)
        ∙ turned (gone w) (listed w (slot_at mid.bits.simulator k))
        ∙ ap (λ (wheel : List (List ℕ)). cond (gone w) 0 (listed w (slice_index_or wheel k []))) mid_wheel
        ∙ same_gone (gone w) (is_port_in leaving (driver n w)) (listed w (slot_at s.bits.simulator k)) (are.left w)
        (λ goes stays. shown.bits.events w k within ∙ nothing_resting n ok active on numbering leaving gone t units s are shown w k (change_at n w (t + 1 + k) && is_bit_wire n w) goes stays)
    | inr late ↦
        ap (listed w) (taken.later_events k late)
        ∙ ap (λ (wheel : List (List ℕ)). listed w (slice_index_or wheel k [])) mid_wheel
        ∙ else_kept (is_port_in leaving (driver n w)) (listed w (slot_at s.bits.simulator k)) (λ is. shown.bits.events w k within ∙ none_later n ok active on numbering leaving gone t units s are shown w k (change_at n w (t + 1 + k) && is_bit_wire n w) is late)
  ]

  change_left : (x k : ℕ) → x < length s.bits.simulator.fanout → k < length s.wires.wheel →
      changes_of x (data_slot new.wires.wheel k) ≡ cond (is_port_in leaving (driver n x)) 0 (changes_of x (data_slot s.wires.wheel k))
  change_left x k below within = elim (cases_lt k units) as (λ _. changes_of x (data_slot new.wires.wheel k) ≡ cond (is_port_in leaving (driver n x)) 0 (changes_of x (data_slot s.wires.wheel k))) [
    | inl early ↦
        ap (λ (cs : List LevelChange). changes_of x cs) (taken.changes k early)
        ∙ counted_kept (λ (c : LevelChange). c.number) (λ x. not (gone x)) x (data_slot mid.wires.wheel k)
        ∙ turned (gone x) (changes_of x (data_slot mid.wires.wheel k))
        ∙ ap (λ (wheel : List (List LevelChange)). cond (gone x) 0 (changes_of x (data_slot wheel k))) mid_changes
        ∙ same_gone (gone x) (is_port_in leaving (driver n x)) (changes_of x (data_slot s.wires.wheel k)) (are.left x)
        (λ goes stays. none_changes n ok active on numbering leaving gone t units s are shown x k (numbering.data_before x) refl below within goes stays)
    | inr late ↦
        ap (λ (cs : List LevelChange). changes_of x cs) (taken.later_changes k late)
        ∙ ap (λ (wheel : List (List LevelChange)). changes_of x (data_slot wheel k)) mid_changes
        ∙ else_kept (is_port_in leaving (driver n x)) (changes_of x (data_slot s.wires.wheel k)) (no_change n ok active on numbering leaving gone t units s are shown x k (numbering.data_before x) refl below within late)
  ]

  -- what holds of all changes of a slot holds of those that stay
  holds_left : (P : ℕ → LevelChange → Type 0) → ((k : ℕ) → All (P k) (data_slot s.wires.wheel k)) → (k : ℕ) → All (P k) (data_slot new.wires.wheel k)
  holds_left P each k =
      let before : All (P k) (data_slot mid.wires.wheel k) = subst (λ (wheel : List (List LevelChange)). All (P k) (data_slot wheel k)) (sym mid_changes) (each k) in
      elim (cases_lt k units) as (λ _. All (P k) (data_slot new.wires.wheel k)) [
        | inl early ↦ subst (λ (cs : List LevelChange). All (P k) cs) (sym (taken.changes k early)) (all_filtered (P k) (λ (c : LevelChange). not (gone c.number)) (data_slot mid.wires.wheel k) before)
        | inr late ↦ subst (λ (cs : List LevelChange). All (P k) cs) (sym (taken.later_changes k late)) before
      ]

  left : HaveLeft n numbering leaving t s new
  left = record {
    copies = ap (λ (b : Simulation). b.copies) taken.bits ∙ ap (λ (b : Simulation). b.copies) slept.bits;
    simulator = simulator_is;
    states = ap (length {A = AutomatonState}) states_are ∙ slept.long;
    asleep = asleep_by;
    other_states = λ q other. ap (λ (xs : List AutomatonState). state_at xs q) states_are ∙ slept.other_states q other;
    units = taken.long ∙ ap (length {A = List ℕ}) mid_wheel;
    events = event_left;
    wires = taken.wires ∙ ap (λ (w : DataWires). (let x : DataWires = record w { wheel = new.wires.wheel } in x)) slept.wires;
    change_units = taken.data_long ∙ ap (length {A = List LevelChange}) mid_changes;
    changes = change_left;
    numbered = holds_left (λ k c. c.number < length s.bits.simulator.fanout) shown.wires.numbered;
    change_levels = holds_left (λ k c. IsLevelAt n numbering.source (t + 1 + k) c) shown.wires.change_levels;
    modules = taken.modules ∙ slept.seats ∙ ap (λ o. (let x : DataModules = record (s.modules) { places = o } in x)) (sym (ap (λ (x : DataModules). x.places) taken.modules));
    places = ap (length {A = Option ℕ}) places_are ∙ slept.places_long;
    no_places = λ q is. ap (λ (xs : List (Option ℕ)). place_at xs q) places_are ∙ slept.no_places q is;
    other_places = λ q other. ap (λ (xs : List (Option ℕ)). place_at xs q) places_are ∙ slept.other_places q other;
  }

pub sleeping_leaves : SleepingLeaves
sleeping_leaves = left
