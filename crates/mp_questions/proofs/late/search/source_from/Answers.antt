use Rattle.std.proofs.Common.{◌-◌, max, sym, ap, ◌∙◌}
use Rattle.mp_model.specs.Waves.{level}
use Rattle.mp_questions.specs.timing.Events.{last_event}
use Rattle.mp_questions.specs.late.Searching.{from_on}
use Rattle.mp_questions.proofs.lemmas.late.LastLemmas.{source_with_memory, source_without}
use Rattle.mp_questions.proofs.late.search.source_from.Goals as goal
use Rattle.mp_questions.proofs.late.search.source_from.Goals.{then-has_memory, else-has_memory}

pub returns : goal.returns
returns c =
    let n = c.args.of.netlist.now in
    let f = level n c.args.input.wire.0 in
    let upto = c.saturating_sub-upto.ensures in
    let found = c.last_between.ensures ∙ ap (λ u. from_on c.if-has_memory.least (last_event f u)) upto in
    elim c.if-has_memory.branch [
      | then-has_memory w ↦
          found ∙ ap (λ k. from_on k (last_event f (c.args.heard - c.args.input.delay))) w.least-is
          ∙ source_with_memory n c.args.kind c.args.heard c.args.from c.args.input (sym c.has_memory.ensures ∙ w.if-has_memory.true)
      | else-has_memory w ↦
          found ∙ ap (λ k. from_on k (last_event f (c.args.heard - c.args.input.delay))) (w.least-is ∙ w.max-least.ensures ∙ ap (max c.args.from) upto)
          ∙ source_without n c.requires.form c.args.kind c.args.heard c.args.from c.args.input (sym c.has_memory.ensures ∙ w.if-has_memory.false)
    ]
