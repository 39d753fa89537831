use Rattle.std.proofs.Common.{◌++◌, ap, sym, ◌∙◌, append_assoc}
use Rattle.std.specs.List.{repeat}
use Rattle.mp_picture.proofs.RowLemmas.{repeat_more}
use Rattle.mp_picture.proofs.repeated.push_repeated.Goals as goal

pub loop-preserved : goal.loop-preserved
loop-preserved c =
    let text = c.args.text.now in
    let old = c.args.row.now.items in
    let n = c.loop.counter in
    c.in_ok-extend_from_slice.ensures.items
    ∙ ap (λ l. l ++ text) c.loop.invariant
    ∙ append_assoc old (repeat n text) text
    ∙ ap (λ l. old ++ l) (sym (repeat_more n text))
