-- The numbers of states within a unit.
use Rattle.std.proofs.Common.{◌≡◌, ℕ, ◌+◌, ◌*◌, ◌/◌, ◌%◌, ◌<◌, ◌≤◌, Bool, true, false, refl, sym, ap, ◌∙◌, arith}
use Rattle.std.specs.Prelude.{◌==◌}
use Rattle.mp_modules.specs.declared.automata.events.Events.{Events}
use Rattle.mp_modules.specs.automata.Codes.{bit, automaton_code, phase_code, events_code, no_events}
use Rattle.mp_modules.proofs.lemmas.automata.CodeLemmas.{phase_low, events_low, events_back, state_low}
use Rattle.mp_kernel.specs.events.Firing.{UnitState, number_of}

-- the events whose bits make up a number
abbrev pub events_with : ℕ → Events
events_with e = record { first = e % 2 == 1; second = e / 2 % 2 == 1; third = e / 4 % 2 == 1; fourth = e / 8 % 2 == 1 }

bit_is : (x : ℕ) → x ≤ 1 → bit (x == 1) ≡ x
bit_is x low = grind arith

pub code_of_events : (e : ℕ) → e < 16 → events_code (events_with e) ≡ e
code_of_events e low =
    let a = bit_is (e % 2) (omega arith) in
    let b = bit_is (e / 2 % 2) (omega arith) in
    let c = bit_is (e / 4 % 2) (omega arith) in
    let d = bit_is (e / 8 % 2) (omega arith) in
    omega arith

four_events : (a b c d : Bool) → ◌≡◌ {A = Events} (events_with (bit a + bit b * 2 + bit c * 4 + bit d * 8)) (record { first = a; second = b; third = c; fourth = d })
four_events true true true true = refl
four_events true true true false = refl
four_events true true false true = refl
four_events true true false false = refl
four_events true false true true = refl
four_events true false true false = refl
four_events true false false true = refl
four_events true false false false = refl
four_events false true true true = refl
four_events false true true false = refl
four_events false true false true = refl
four_events false true false false = refl
four_events false false true true = refl
four_events false false true false = refl
four_events false false false true = refl
four_events false false false false = refl

pub events_of_code : (e : Events) → events_with (events_code e) ≡ e
events_of_code e = four_events e.first e.second e.third e.fourth

pub no_events_when : (e : Events) → events_code e ≡ 0 → e ≡ no_events
no_events_when e none = sym (events_of_code e) ∙ ap events_with none

pub events_part : (u : UnitState) → number_of u % 16 ≡ events_code u.events
events_part u = events_back (automaton_code u.automaton) (phase_code u.phase) (events_code u.events) (phase_low u.phase) (events_low u.events)

pub number_low : (u : UnitState) → number_of u < 2112
number_low u = state_low u.automaton u.phase u.events

-- the state with the events of a number
abbrev pub with_events : UnitState → ℕ → UnitState
with_events u x = record { automaton = u.automaton; phase = u.phase; events = events_with (x % 16) }

pub numbered_with : (u : UnitState) (s new x : ℕ) → s ≡ number_of u → new ≡ s + x → s % 16 + x < 16 → new ≡ number_of (with_events u new)
numbered_with u s new x is more room =
    let low = events_low u.events in
    let own = code_of_events (new % 16) (omega arith) in
    omega arith
