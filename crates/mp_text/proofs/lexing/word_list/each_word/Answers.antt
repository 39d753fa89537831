use Rattle.mp_text.proofs.lemmas.lexing.Names.{inl, inr, arith}
use Rattle.std.proofs.lemmas.Result.{err_from_is_err_and}
use Rattle.mp_text.proofs.lemmas.lexing.WordListLemmas.{each_err}
use Rattle.mp_text.proofs.lexing.word_list.each_word.Goals as goal

pub returns-in_err-item : goal.returns-in_err-item
returns-in_err-item g c =
    let p = err_from_is_err_and c.from_residual-in_err-item.result c.from_residual-in_err-item.ensures.1 in
    elim c.in_err-item.ensures [
      | inl memory ↦ rw (p.1, p.2) (inl memory)
      | inr failed ↦ rw (p.1, p.2) (inr (each_err g.W.Worded.read (λ w. w.now) c.args.words.now c.loop-word.word-index _ c.loop-word.items.items c.in_err-item.field-0.0 (omega arith) c.loop-word.invariant failed))
    ]
