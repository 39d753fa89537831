-- Modules are put to sleep, one after the other.
use Rattle.std.proofs.Common.{◌≡◌, ℕ, ◌<◌, Bool, true, false, List, Option, None, length, refl, ap, sym, subst, ◌∙◌, arith, inl, inr, get_or-set_same, get_or-set_other}
use Rattle.std.specs.Prelude.{◌==◌, ◌||◌}
use Rattle.std.proofs.lemmas.Bool.{eqb-true, eqb-false, or_cases, or_parts}
use Rattle.std.proofs.lemmas.List.{length-set}
use Rattle.mp_modules.specs.declared.automata.automaton_state.AutomatonState.{AutomatonState}
use Rattle.mp_simulation.specs.declared.bits.simulation.Simulation.{Simulation}
use Rattle.mp_kernel.specs.events.Adding.{state_at}
use Rattle.mp_kernel.specs.datapath.DataFiring.{place_at}
use Rattle.mp_simulation.specs.declared.units.data_modules.DataModules.{DataModules}
use Rattle.mp_simulation.specs.declared.units.netlist_simulation.NetlistSimulation.{NetlistSimulation}
use Rattle.mp_active.specs.steps.Sleeping.{asleep_state, IsPutToSleep, ArePutToSleep, NoneAsleep, PutsMoreToSleep}

pub none_asleep : NoneAsleep
none_asleep s = record {
  bits = refl;
  long = refl;
  asleep = λ q low is. let no : ⊥ = cc in absurd no;
  other_states = λ q other. refl;
  wires = refl;
  seats = refl;
  places_long = refl;
  no_places = λ q is. let no : ⊥ = cc in absurd no;
  other_places = λ q other. refl;
}

module _ (chosen : ℕ → Bool) (m : ℕ) (s mid new : NetlistSimulation) (low : m < length s.bits.simulator.states.items) (seat_low : m < length s.modules.places.items)
    (before : ArePutToSleep chosen s mid) (one : IsPutToSleep m mid new) where
  state_own : state_at new.bits.simulator.states.items m ≡ asleep_state.0
  state_own =
      ap (λ (xs : List AutomatonState). state_at xs m) one.states
      ∙ ap (λ (x : AutomatonState). x.0) (get_or-set_same mid.bits.simulator.states.items m asleep_state (record { 0 = 0 }) (let same = before.long in omega (arith, low, same)))

  state_other : (q : ℕ) → (q == m) ≡ false → state_at new.bits.simulator.states.items q ≡ state_at mid.bits.simulator.states.items q
  state_other q other =
      ap (λ (xs : List AutomatonState). state_at xs q) one.states
      ∙ ap (λ (x : AutomatonState). x.0) (get_or-set_other mid.bits.simulator.states.items m q asleep_state (record { 0 = 0 }) (eqb-false q m other))

  place_own : place_at new.modules.places.items m ≡ None
  place_own =
      ap (λ (xs : List (Option ℕ)). place_at xs m) one.places
      ∙ get_or-set_same mid.modules.places.items m None None (let same = before.places_long in omega (arith, seat_low, same))

  place_other : (q : ℕ) → (q == m) ≡ false → place_at new.modules.places.items q ≡ place_at mid.modules.places.items q
  place_other q other = ap (λ (xs : List (Option ℕ)). place_at xs q) one.places ∙ get_or-set_other mid.modules.places.items m q None None (eqb-false q m other)

  asleep_by : (q : ℕ) → q < length s.bits.simulator.states.items → (b : Bool) → (q == m) ≡ b → (chosen q || b) ≡ true → state_at new.bits.simulator.states.items q ≡ asleep_state.0
  asleep_by q within true here is = subst (λ k. state_at new.bits.simulator.states.items k ≡ asleep_state.0) (sym (eqb-true q m here)) state_own
  asleep_by q within false other is = state_other q other ∙ before.asleep q within (elim (or_cases (chosen q) false is) as (λ _. chosen q ≡ true) [ inl own ↦ own | inr wrong ↦ let never : ⊥ = cc in absurd never ])

  gone_by : (q : ℕ) → (b : Bool) → (q == m) ≡ b → (chosen q || b) ≡ true → place_at new.modules.places.items q ≡ None
  gone_by q true here is = subst (λ k. place_at new.modules.places.items k ≡ None) (sym (eqb-true q m here)) place_own
  gone_by q false other is = place_other q other ∙ before.no_places q (elim (or_cases (chosen q) false is) as (λ _. chosen q ≡ true) [ inl own ↦ own | inr wrong ↦ let never : ⊥ = cc in absurd never ])

  more_asleep : ArePutToSleep (λ q. chosen q || (q == m)) s new
  more_asleep = record {
    bits = one.bits ∙ ap (λ (b : Simulation). (let x : Simulation = record b { simulator = record (b.simulator) { states = new.bits.simulator.states } } in x)) before.bits;
    long = ap (length {A = AutomatonState}) one.states ∙ length-set mid.bits.simulator.states.items m asleep_state ∙ before.long;
    asleep = λ q within is. asleep_by q within (q == m) refl is;
    other_states = λ q is. let parts = or_parts (chosen q) (q == m) is in state_other q parts.1 ∙ before.other_states q parts.0;
    wires = one.wires ∙ before.wires;
    seats = one.modules ∙ ap (λ (x : DataModules). (let y : DataModules = record x { places = new.modules.places } in y)) before.seats;
    places_long = ap (length {A = Option ℕ}) one.places ∙ length-set mid.modules.places.items m None ∙ before.places_long;
    no_places = λ q is. gone_by q (q == m) refl is;
    other_places = λ q is. let parts = or_parts (chosen q) (q == m) is in place_other q parts.1 ∙ before.other_places q parts.0;
  }

pub puts_more_to_sleep : PutsMoreToSleep
puts_more_to_sleep = more_asleep
