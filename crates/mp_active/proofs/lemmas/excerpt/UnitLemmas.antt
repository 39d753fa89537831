-- The states at all places of a simulation.
use Rattle.std.proofs.Common.{◌≡◌, ℕ, ◌<◌, ◌≤◌, ◌⊎◌, Bool, false, Option, Some, None, is_some, length, refl, ap, sym, ◌∙◌, arith, inl, inr}
use Rattle.std.proofs.lemmas.Bool.{cases_lt}
use Rattle.std.proofs.lemmas.Option.{none-some}
use Rattle.mp_modules.specs.declared.memory.Client.TheVariants.{Nobody}
use Rattle.mp_records.specs.declared.module_record.ModuleRecord.{ModuleRecord}
use Rattle.mp_netlist.specs.Circuit.{Circuit, module_at}
use Rattle.mp_modules.specs.declared.automata.automaton.Automaton.TheVariants.{Sleep}
use Rattle.mp_modules.specs.automata.Codes.{no_events}
use Rattle.mp_kernel.specs.events.Adding.{state_at}
use Rattle.mp_kernel.specs.events.Firing.{UnitState, number_of}
use Rattle.mp_simulation.specs.bits.Units.{rest_state_at}
use Rattle.mp_simulation.specs.declared.units.netlist_simulation.NetlistSimulation.{NetlistSimulation}
use Rattle.mp_active.specs.excerpt.Numberings.{Numbering, place_in, place_of}
use Rattle.mp_active.specs.excerpt.Showing.{Shows}
use Rattle.mp_active.proofs.lemmas.excerpt.PlaceLemmas.{placed}

-- nothing is ever done in it
abbrev pub no_unit : UnitState
no_unit = record { automaton = Sleep; phase = record { served = Nobody; waiting = record { first = false; second = false } }; events = no_events }

module _ (n : Circuit) (active on : ℕ → Bool) (numbering : Numbering) (t : ℕ) (s : NetlistSimulation) (shown : Shows n active on numbering t s) where
  abbrev pub unit_in : ℕ → Option ModuleRecord → UnitState
  unit_in q None = no_unit
  unit_in q (Some r) = rest_state_at n r q t

  abbrev pub sleeping : (q : ℕ) → place_of n active q ≡ None → (q < length n.modules) ⊎ (length n.modules ≤ q) → UnitState
  sleeping q none (inl within) = (shown.bits.asleep q within none).unit
  sleeping q none (inr past) = no_unit

  abbrev pub unit_by : (q : ℕ) (o : Option ℕ) → place_of n active q ≡ o → UnitState
  unit_by q None none = sleeping q none (cases_lt q (length n.modules))
  unit_by q (Some k) is = unit_in q (module_at n q)

  abbrev pub units_of : ℕ → UnitState
  units_of q = unit_by q (place_of n active q) refl

  sleeps : (q : ℕ) (none : place_of n active q ≡ None) (c : (q < length n.modules) ⊎ (length n.modules ≤ q)) → (sleeping q none c).automaton ≡ Sleep
  sleeps q none (inl within) = (shown.bits.asleep q within none).sleeps
  sleeps q none (inr past) = refl

  pub sleeps_by : (q : ℕ) (o : Option ℕ) (is : place_of n active q ≡ o) → is_some o ≡ false → (unit_by q o is).automaton ≡ Sleep
  sleeps_by q None is idle = sleeps q is (cases_lt q (length n.modules))
  sleeps_by q (Some k) is idle = let never : ⊥ = cc in absurd never

  sleeping_number : (q : ℕ) (none : place_of n active q ≡ None) (c : (q < length n.modules) ⊎ (length n.modules ≤ q)) → q < length n.modules →
      state_at s.bits.simulator.states.items q ≡ number_of (sleeping q none c)
  sleeping_number q none (inl within) low = (shown.bits.asleep q within none).is
  sleeping_number q none (inr past) low = let no : ⊥ = omega (arith, past, low) in absurd no

  active_number : (q k : ℕ) (slot : Option ModuleRecord) → module_at n q ≡ slot → place_of n active q ≡ Some k → state_at s.bits.simulator.states.items q ≡ number_of (unit_in q slot)
  active_number q k None at is = absurd (none-some k (sym (ap (place_in n (active q) q) at) ∙ is))
  active_number q k (Some r) at is = (shown.bits.seats q r at (placed n active q k r at is).place).word

  pub numbered_by : (q : ℕ) (o : Option ℕ) (is : place_of n active q ≡ o) → q < length n.modules → state_at s.bits.simulator.states.items q ≡ number_of (unit_by q o is)
  numbered_by q None is low = sleeping_number q is (cases_lt q (length n.modules)) low
  numbered_by q (Some k) is low = active_number q k (module_at n q) refl is

  pub unit_some : (q k : ℕ) (o : Option ℕ) (is : place_of n active q ≡ o) (r : ModuleRecord) → module_at n q ≡ Some r → o ≡ Some k → unit_by q o is ≡ rest_state_at n r q t
  unit_some q k None is r at some = absurd (none-some k some)
  unit_some q k (Some j) is r at some = ap (unit_in q) at
