-- What comes of each state of an automaton, and the table of it.
use Rattle.std.specs.Prelude.{◌≡◌, List, length, slice_index_or}
use Rattle.mp_modules.specs.declared.automata.automaton.Automaton.{Automaton}
use Rattle.mp_modules.specs.declared.automata.phase.Phase.{Phase}
use Rattle.mp_modules.specs.declared.automata.events.Events.{Events}
use Rattle.mp_modules.specs.declared.automata.reaction.Reaction.{Reaction}
use Rattle.mp_modules.specs.declared.automata.transition.Transition.{Transition}
use Rattle.mp_modules.specs.automata.Reactions.{react}
use Rattle.mp_modules.specs.automata.Codes.{no_events, state_code}
use Rattle.mp_modules.specs.automata.PortLevels.{ports_code}

abbrev pub transition_by : Automaton → Events → Reaction → Transition
transition_by a e r = record { next = record { 0 = state_code a r.phase no_events }; flips = ports_code e r.toggles }

-- what comes of a state
abbrev pub transition_of : Automaton → Phase → Events → Transition
transition_of a k e = transition_by a e (react a k e)

abbrev pub no_transition : Transition
no_transition = record { next = record { 0 = 0 }; flips = 0 }

-- for each state what comes of it
pub record IsTable (list : List Transition) : Type 0 where
  pub places : length list ≡ 2112
  pub each : (a : Automaton) (k : Phase) (e : Events) → slice_index_or list (state_code a k e) no_transition ≡ transition_of a k e
