-- The places of modules sleep.
use Rattle.std.specs.Prelude.{◌≡◌, ℕ, ◌<◌, Bool, true, false, None, length, slice_set, ◌||◌, ◌==◌}
use Rattle.mp_modules.specs.declared.automata.automaton_state.AutomatonState.{AutomatonState}
use Rattle.mp_modules.specs.declared.automata.automaton.Automaton.TheVariants.{Sleep}
use Rattle.mp_modules.specs.automata.Codes.{state_code, no_events}
use Rattle.mp_modules.specs.automata.Phases.{unserved}
use Rattle.mp_kernel.specs.events.Adding.{state_at}
use Rattle.mp_kernel.specs.datapath.DataFiring.{place_at}
use Rattle.mp_simulation.specs.declared.units.netlist_simulation.NetlistSimulation.{NetlistSimulation}

-- the state of a module that does nothing
abbrev pub asleep_state : AutomatonState
asleep_state = record { 0 = state_code Sleep (unserved false false) no_events }

-- the state at a place sleeps, and no module with data stands there; all else is as it was
pub record IsPutToSleep (m : ℕ) (s new : NetlistSimulation) : Type 0 where
  pub bits : new.bits ≡ record (s.bits) { simulator = record (s.bits.simulator) { states = new.bits.simulator.states } }
  pub states : new.bits.simulator.states.items ≡ slice_set s.bits.simulator.states.items m asleep_state
  pub wires : new.wires ≡ s.wires
  pub modules : new.modules ≡ record (s.modules) { places = new.modules.places }
  pub places : new.modules.places.items ≡ slice_set s.modules.places.items m None

-- so it is with these modules, as far as they have places; all else is as it was
pub record ArePutToSleep (modules : ℕ → Bool) (s new : NetlistSimulation) : Type 0 where
  pub bits : new.bits ≡ record (s.bits) { simulator = record (s.bits.simulator) { states = new.bits.simulator.states } }
  pub long : length new.bits.simulator.states.items ≡ length s.bits.simulator.states.items
  pub asleep : (q : ℕ) → q < length s.bits.simulator.states.items → modules q ≡ true → state_at new.bits.simulator.states.items q ≡ asleep_state.0
  pub other_states : (q : ℕ) → modules q ≡ false → state_at new.bits.simulator.states.items q ≡ state_at s.bits.simulator.states.items q
  pub wires : new.wires ≡ s.wires
  pub seats : new.modules ≡ record (s.modules) { places = new.modules.places }
  pub places_long : length new.modules.places.items ≡ length s.modules.places.items
  pub no_places : (q : ℕ) → modules q ≡ true → place_at new.modules.places.items q ≡ None
  pub other_places : (q : ℕ) → modules q ≡ false → place_at new.modules.places.items q ≡ place_at s.modules.places.items q

-- before the first is put to sleep, none is
abbrev pub NoneAsleep : Type 0
NoneAsleep = (s : NetlistSimulation) → ArePutToSleep (λ q. false) s s

-- one more is
abbrev pub PutsMoreToSleep : Type 0
PutsMoreToSleep = (modules : ℕ → Bool) (m : ℕ) (s mid new : NetlistSimulation) → m < length s.bits.simulator.states.items → m < length s.modules.places.items → ArePutToSleep modules s mid → IsPutToSleep m mid new →
    ArePutToSleep (λ q. modules q || (q == m)) s new
