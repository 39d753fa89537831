use Rattle.std.proofs.Common.{◌||◌, take, sym, ap, ◌∙◌}
use Rattle.mp_streams.proofs.OutLemmas.{writes_failed}
use Rattle.mp_request.specs.explain.Explanations.{is_known}
use Rattle.mp_request.proofs.lemmas.explain.ExplanationLemmas.{explained_next, explained_stopped, known_more}
use Rattle.mp_request.proofs.explain.explaining.put_explanation.Goals as goal

pub returns-in_err-is_known-clause-text : goal.returns-in_err-is_known-clause-text
returns-in_err-is_known-clause-text g c =
    writes_failed _ c.from_residual.ensures.0
    (explained_stopped c.args.word.now c.args.guide.now c.loop-entry.entry-index _ c.loop-entry-test.true c.loop-entry.invariant.0 c.in_err-is_known.ensures.text)

pub loop-entry-preserved : goal.loop-entry-preserved
loop-entry-preserved g c =
    let word = c.args.word.now in
    let guide = c.args.guide.now in
    let i = c.loop-entry.entry-index in
    let before = is_known word (take i guide) in (
      explained_next word guide i _ c.loop-entry-test.true c.loop-entry.invariant.0 c.in_ok-is_known.ensures.text,
      ap (λ known. known || c.in_ok-is_known.field-0) c.loop-entry.invariant.1 ∙ ap (λ meant. before || meant) c.in_ok-is_known.ensures.meant
          ∙ sym (known_more word guide i _ c.loop-entry-test.true),
    )
