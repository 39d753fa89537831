-- Numbers of states.
use Rattle.std.proofs.Common.{◌≡◌, ℕ, ◌+◌, ◌*◌, ◌/◌, ◌%◌, ◌<◌, ◌≤◌, Bool, true, false, refl, arith}
use Rattle.mp_modules.specs.declared.memory.Client.{Client}
use Rattle.mp_modules.specs.declared.memory.Client.TheVariants.{Nobody, First, Second}
use Rattle.mp_modules.specs.declared.automata.automaton.Automaton.{Automaton}
use Rattle.mp_modules.specs.declared.automata.automaton.Automaton.TheVariants.{Follow, Merge, Join, Alternate, Choose, Serve, Grant, Hold, Sleep, Meet, Pick}
use Rattle.mp_modules.specs.declared.automata.phase.Phase.{Phase}
use Rattle.mp_modules.specs.declared.automata.events.Events.{Events}
use Rattle.mp_modules.specs.automata.Codes.{bit, automaton_code, client_code, phase_code, events_code, state_code}
use Rattle.mp_modules.specs.automata.Transitions.{transition_of}

pub bit_low : (b : Bool) → bit b ≤ 1
bit_low true = omega arith
bit_low false = omega arith

pub served_low : (c : Client) → client_code c ≤ 2
served_low Nobody = omega arith
served_low First = omega arith
served_low Second = omega arith

pub place_low : (a : Automaton) → automaton_code a ≤ 10
place_low Follow = omega arith
place_low Merge = omega arith
place_low Join = omega arith
place_low Alternate = omega arith
place_low Choose = omega arith
place_low Serve = omega arith
place_low Grant = omega arith
place_low Hold = omega arith
place_low Sleep = omega arith
place_low Meet = omega arith
place_low Pick = omega arith

pub phase_low : (k : Phase) → phase_code k < 12
phase_low k =
    let s = served_low k.served in
    let f = bit_low k.waiting.first in
    let g = bit_low k.waiting.second in
    omega arith

pub events_low : (e : Events) → events_code e < 16
events_low e =
    let a = bit_low e.first in
    let b = bit_low e.second in
    let c = bit_low e.third in
    let d = bit_low e.fourth in
    omega arith

pub state_low : (a : Automaton) (k : Phase) (e : Events) → state_code a k e < 2112
state_low a k e =
    let p = place_low a in
    let c = phase_low k in
    let d = events_low e in
    omega arith

pub place_back : (p c e : ℕ) → c < 12 → e < 16 → ((p * 12 + c) * 16 + e) / 192 ≡ p
place_back p c e hc he = omega arith

pub phase_back : (p c e : ℕ) → c < 12 → e < 16 → ((p * 12 + c) * 16 + e) / 16 % 12 ≡ c
phase_back p c e hc he = omega arith

pub events_back : (p c e : ℕ) → c < 12 → e < 16 → ((p * 12 + c) * 16 + e) % 16 ≡ e
events_back p c e hc he = omega arith

pub same_transition : {a b : Automaton} {k l : Phase} {e f : Events} → a ≡ b → k ≡ l → e ≡ f → transition_of a k e ≡ transition_of b l f
same_transition p q r = rw (p, q, r) refl
