use Rattle.std.proofs.Common.{◌∙◌}
use Rattle.mp_modules.specs.automata.Codes.{automaton_code, phase_code, events_code}
use Rattle.mp_modules.proofs.lemmas.automata.CodeLemmas.{place_back, phase_back, events_back, phase_low, events_low, same_transition}
use Rattle.mp_modules.proofs.automata.transition_table.transition_at.Goals as goal

pub returns : goal.returns
returns c a k e is =
    let p = place_back (automaton_code a) (phase_code k) (events_code e) (phase_low k) (events_low e) in
    let q = phase_back (automaton_code a) (phase_code k) (events_code e) (phase_low k) (events_low e) in
    let r = events_back (automaton_code a) (phase_code k) (events_code e) (phase_low k) (events_low e) in
    let ea = c.from_code.ensures a (rw is p) in
    let ek = c.from_code-2.ensures k (rw is q) in
    let ee = c.from_code-3.ensures e (rw is r) in
    c.of.ensures ∙ same_transition ea ek ee
