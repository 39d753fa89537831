use Rattle.std.proofs.Common.{ap, ◌∙◌, sym}
use Rattle.mp_modules.specs.declared.automata.automaton.Automaton.{Automaton as AnyAutomaton}
use Rattle.mp_modules.specs.declared.automata.phase.Phase.{Phase as AnyPhase}
use Rattle.mp_modules.specs.automata.Automata.{automaton_of}
use Rattle.mp_modules.specs.automata.Phases.{phase_of, clients_in}
use Rattle.mp_modules.specs.automata.Codes.{automaton_code, phase_code, events_code, no_events}
use Rattle.mp_modules.specs.automata.PortLevels.{input_bits, output_bits}
use Rattle.mp_modules.proofs.lemmas.automata.CodeLemmas.{place_back, phase_back, phase_low, events_low}
use Rattle.mp_modules.proofs.lemmas.automata.LevelLemmas.{inputs_told, outputs_told, same_memory}
use Rattle.mp_modules.proofs.automata.automaton_state.AutomatonState.memory.Goals as goal

pub returns : goal.returns
returns c part m s is levels =
    let a = automaton_of part in
    let k = phase_of part m in
    let p = place_back (automaton_code a) (phase_code k) (events_code no_events) (phase_low k) (events_low no_events) in
    let q = phase_back (automaton_code a) (phase_code k) (events_code no_events) (phase_low k) (events_low no_events) in
    let ea = c.from_code-automaton.ensures a (rw is p) in
    let ek = c.from_code-phase.ensures k (rw is q) in
    same_memory m c.inputs.result c.outputs.result c.clients-clients.result
    (c.inputs.ensures ∙ ap input_bits levels ∙ inputs_told part m s)
    (c.outputs.ensures ∙ ap output_bits levels ∙ outputs_told part m s)
    (c.clients-clients.ensures ∙ ap (λ (x : AnyAutomaton). clients_in x c.from_code-phase.result) ea ∙ ap (λ (x : AnyPhase). clients_in a x) ek ∙ sym s.clients)
