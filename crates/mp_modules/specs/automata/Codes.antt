-- Automata, phases, events and toggles as numbers.
use Rattle.std.specs.Prelude.{ℕ, ◌+◌, ◌*◌, Bool, false, if◌then◌else◌}
use Rattle.mp_modules.specs.declared.memory.Client.{Client}
use Rattle.mp_modules.specs.declared.memory.Client.TheVariants.{Nobody, First, Second}
use Rattle.mp_modules.specs.declared.automata.automaton.Automaton.{Automaton}
use Rattle.mp_modules.specs.declared.automata.automaton.Automaton.TheVariants.{Follow, Merge, Join, Alternate, Choose, Serve, Grant, Hold, Sleep, Meet, Pick}
use Rattle.mp_modules.specs.declared.automata.phase.Phase.{Phase}
use Rattle.mp_modules.specs.declared.automata.events.Events.{Events}
use Rattle.mp_modules.specs.declared.automata.toggles.Toggles.{Toggles}

abbrev pub bit : Bool → ℕ
bit b = if b then 1 else 0

abbrev pub automaton_code : Automaton → ℕ
automaton_code Follow = 0
automaton_code Merge = 1
automaton_code Join = 2
automaton_code Alternate = 3
automaton_code Choose = 4
automaton_code Serve = 5
automaton_code Grant = 6
automaton_code Hold = 7
automaton_code Sleep = 8
automaton_code Meet = 9
automaton_code Pick = 10

abbrev pub client_code : Client → ℕ
client_code Nobody = 0
client_code First = 1
client_code Second = 2

abbrev pub phase_code : Phase → ℕ
phase_code k = client_code k.served * 4 + bit k.waiting.first * 2 + bit k.waiting.second

abbrev pub events_code : Events → ℕ
events_code e = bit e.first + bit e.second * 2 + bit e.third * 4 + bit e.fourth * 8

abbrev pub toggles_code : Toggles → ℕ
toggles_code t = bit t.first + bit t.second * 2 + bit t.third * 4

abbrev pub no_events : Events
no_events = record { first = false; second = false; third = false; fourth = false }

-- the number of a state within a unit
abbrev pub state_code : Automaton → Phase → Events → ℕ
state_code a k e = (automaton_code a * 12 + phase_code k) * 16 + events_code e
