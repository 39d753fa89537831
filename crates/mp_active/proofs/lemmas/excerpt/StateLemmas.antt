-- Simulators whose states and wheel are others.
use Rattle.std.proofs.Common.{◌≡◌, ℕ, ◌%◌, ◌<◌, Bool, true, false, cond, List, [], length, refl, ap, sym, subst, ◌∙◌, arith, inl, inr, ◌⊎◌}
use Rattle.std.specs.Prelude.{◌==◌}
use Rattle.std.proofs.lemmas.Bool.{cases_Bool, eqb-true}
use Rattle.mp_modules.specs.declared.automata.automaton_state.AutomatonState.{AutomatonState}
use Rattle.mp_modules.specs.automata.Codes.{events_code, no_events}
use Rattle.mp_kernel.specs.events.Adding.{state_at, listed, IsAdding}
use Rattle.mp_kernel.specs.events.Firing.{UnitState, number_of, AreNumbered}
use Rattle.mp_simulation.proofs.lemmas.bits.NumberLemmas.{events_part, number_low}
use Rattle.mp_active.specs.excerpt.Showing.{IsAsleep}

-- the number of a state without events
abbrev pub IsRest : ℕ → Type 0
IsRest word = (u : UnitState) × (u.events ≡ no_events) × (word ≡ number_of u)

pub asleep_rests : (word : ℕ) → IsAsleep word → IsRest word
asleep_rests word is = (is.unit, is.quiet, is.is)

rest_low : (word : ℕ) → IsRest word → word < 2112
rest_low word rest = subst (λ k. k < 2112) (sym rest.2) (number_low rest.0)

rest_none : (word : ℕ) → IsRest word → word % 16 ≡ 0
rest_none word rest = ap (λ k. k % 16) rest.2 ∙ events_part rest.0 ∙ ap events_code rest.1

zero_by : (k : ℕ) (b : Bool) → (k == 0) ≡ b → ◌≡◌ {A = ℕ} 0 (cond b 0 1) → k ≡ 0
zero_by k true test e = eqb-true k 0 test
zero_by k false test e = let no : ⊥ = omega (arith, e) in absurd no

-- where nothing is due, no state has an event
pub no_remainder : (states : List AutomatonState) (due : List ℕ) → IsAdding states due [] → due ≡ [] → (q : ℕ) → state_at states q % 16 ≡ 0
no_remainder states due adding none q = zero_by (state_at states q % 16) (state_at states q % 16 == 0) refl (sym (ap (listed q) none) ∙ adding.once q)

-- some states are others, without events
module _ (states new : List AutomatonState) (due : List ℕ) (moved : ℕ → Bool) (adding : IsAdding states due []) (none : due ≡ []) (rest : (q : ℕ) → moved q ≡ true → IsRest (state_at new q))
    (others : (q : ℕ) → moved q ≡ false → state_at new q ≡ state_at states q) where
  word_by : (P : ℕ → Type 0) → ((q : ℕ) → moved q ≡ true → P (state_at new q)) → ((q : ℕ) → P (state_at states q)) → (q : ℕ) → P (state_at new q)
  word_by P own other q = elim (cases_Bool (moved q)) as (λ _. P (state_at new q)) [
    | inl here ↦ own q here
    | inr else_where ↦ subst P (sym (others q else_where)) (other q)
  ]

  no_events_new : (q : ℕ) → state_at new q % 16 ≡ 0
  no_events_new = word_by (λ word. word % 16 ≡ 0) (λ q here. rest_none (state_at new q) (rest q here)) (no_remainder states due adding none)

  pub adding_new : IsAdding new due []
  adding_new = record {
    placed = λ k d within. let no : ⊥ = omega (arith, within) in absurd no;
    events = λ k d within. let no : ⊥ = omega (arith, within) in absurd no;
    low = word_by (λ word. word < 2112) (λ q here. rest_low (state_at new q) (rest q here)) adding.low;
    room = λ q. let none = no_events_new q in omega (arith, none);
    once = λ q. ap (listed q) none ∙ sym (ap (λ k. cond (k == 0) 0 1) (no_events_new q));
  }

  abbrev unit_by : (ℕ → UnitState) → (q : ℕ) → (moved q ≡ true) ⊎ (moved q ≡ false) → UnitState
  unit_by units q (inl here) = (rest q here).0
  unit_by units q (inr else_where) = units q

  abbrev pub units_new : (ℕ → UnitState) → ℕ → UnitState
  units_new units q = unit_by units q (cases_Bool (moved q))

  pub numbered_new : (units : ℕ → UnitState) → length new ≡ length states → AreNumbered states units → AreNumbered new (units_new units)
  numbered_new units long numbered q within = by (cases_Bool (moved q))
    where
      by : (which : (moved q ≡ true) ⊎ (moved q ≡ false)) → state_at new q ≡ number_of (unit_by units q which)
      by (inl here) = (rest q here).2
      by (inr else_where) = others q else_where ∙ numbered q (omega (arith, within, long))
