use Rattle.mp_exports.proofs.lemmas.vcd.Names.{at_drop_more, ◌+◌, ◌++◌, drop, ap, sym, ◌∙◌, flat_map, refl, rules, passage_text, puts_as, puts_ok, left_as, left_then, left_failed}
use Rattle.mp_exports.proofs.vcd.dump_batch.put_each.Goals as goal

pub returns-in_err-put_text : goal.returns-in_err-put_text
returns-in_err-put_text g c =
    let i = c.loop-place.place in
    let next = at_drop_more (flat_map passage_text) c.args.passages.now i c.index-passages-place.result (search rules) ∙ ap (λ p. passage_text p ++ flat_map passage_text (drop (i + 1) c.args.passages.now)) (sym c.index-passages-place.is) in
    left_failed _ (left_as next c.loop-place.invariant) c.from_residual.result c.from_residual.ensures.0 (puts_as _ c.in_err-put_text.field-0.0 c.from_residual.ensures.1 refl c.in_err-put_text.ensures)

pub loop-place-preserved : goal.loop-place-preserved
loop-place-preserved g c =
    let i = c.loop-place.place in
    let next = at_drop_more (flat_map passage_text) c.args.passages.now i c.index-passages-place.result (search rules) ∙ ap (λ p. passage_text p ++ flat_map passage_text (drop (i + 1) c.args.passages.now)) (sym c.index-passages-place.is) in
    left_then (left_as next c.loop-place.invariant) (puts_ok c.in_ok-put_text.ensures)
