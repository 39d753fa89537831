use Rattle.std.proofs.Common.{◌≡◌, ◌<◌, length}
use Rattle.std.specs.Prelude.{slice_index_or}
use Rattle.mp_modules.specs.declared.automata.automaton.Automaton.{Automaton as AnyAutomaton}
use Rattle.mp_modules.specs.declared.automata.phase.Phase.{Phase as AnyPhase}
use Rattle.mp_modules.specs.declared.automata.events.Events.{Events as AnyEvents}
use Rattle.mp_modules.specs.automata.Codes.{state_code}
use Rattle.mp_modules.specs.automata.Transitions.{transition_of, no_transition}
use Rattle.mp_modules.proofs.automata.transition_table.all_transitions.Given as goal

abbrev pub invariant-loop-place : goal.invariant-loop-place
invariant-loop-place l =
    (length l.list.items ≡ l.place) ×
    ((a : AnyAutomaton) (k : AnyPhase) (e : AnyEvents) → state_code a k e < l.place → slice_index_or l.list.items (state_code a k e) no_transition ≡ transition_of a k e)
