use Rattle.mp_text.proofs.Names.{inl, inr, arith, texts, each_err, part_edit, err_from_is_err_and}
use Rattle.mp_text.proofs.batch_line.each_part.Goals as goal

pub returns-in_err-edit : goal.returns-in_err-edit
returns-in_err-edit c =
    let p = err_from_is_err_and c.from_residual-in_err-edit.result c.from_residual-in_err-edit.ensures.1 in
    elim c.in_err-edit.ensures [
      | inl memory ↦ rw (p.1, p.2) (inl memory)
      | inr failed ↦ rw (p.1, p.2) (inr (each_err part_edit (λ part. texts part.now) c.args.parts.now c.loop-part.part-index _ c.loop-part.edits.items c.in_err-edit.field-0.0 (omega arith) c.loop-part.invariant failed))
    ]
