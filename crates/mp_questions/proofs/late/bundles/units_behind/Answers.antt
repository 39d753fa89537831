use Rattle.std.proofs.Common.{◌≡◌, ◌-◌, Some, sym, ap, ◌∙◌, arith}
use Rattle.mp_model.specs.Waves.{level}
use Rattle.mp_questions.specs.timing.Events.{last_event}
use Rattle.mp_questions.proofs.lemmas.causes.EventLemmas.{last_event_is}
use Rattle.mp_questions.specs.late.Lateness.{units_behind}
use Rattle.mp_questions.specs.late.Searching.{from_on}
use Rattle.mp_questions.proofs.lemmas.late.LastLemmas.{from_one}
use Rattle.mp_questions.proofs.late.bundles.units_behind.Goals as goal

pub returns-in_default-clause-value : goal.returns-in_default-clause-value
returns-in_default-clause-value c =
    let n = c.args.search.now.of.netlist.now in
    let f = level n c.args.bundle.now.request.0 in
    ap (units_behind n c.args.bundle.now c.args.time) (c.in_default.ensures ∙ ap (λ u. from_on 1 (last_event f u)) c.saturating_sub-before.ensures ∙ from_one f (c.args.time - 1))

pub overflow_sub-result : goal.overflow_sub-result
overflow_sub-result c =
    let n = c.args.search.now.of.netlist.now in
    let f = level n c.args.bundle.now.request.0 in
    let is : Some c.in-Some.asked ≡ last_event f (c.args.time - 1) = c.in-Some.ensures ∙ ap (λ u. from_on 1 (last_event f u)) c.saturating_sub-before.ensures ∙ from_one f (c.args.time - 1) in
    let last = last_event_is f (c.args.time - 1) c.in-Some.asked (sym is) in
    omega (arith, last.within)
