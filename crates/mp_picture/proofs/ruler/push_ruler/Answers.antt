use Rattle.std.proofs.Common.{ℕ, ◌++◌, ◌∷◌, [], ap, sym, ◌∙◌, append_assoc}
use Rattle.std.specs.List.{flat_map, range_with_len, repeat}
use Rattle.mp_picture.specs.Rows.{padded, tick, tick_step}
use Rattle.mp_picture.proofs.RowLemmas.{flat_map-range_more}
use Rattle.mp_picture.proofs.ruler.push_ruler.Goals as goal

pub loop-number-preserved : goal.loop-number-preserved
loop-number-preserved c =
    let f = λ (i : ℕ). padded (tick_step c.args.layout.columns) (tick c.args.layout.columns i) in
    let old = c.args.row.now.items in
    let blanks = repeat c.args.layout.margin (32 ∷ []) in
    let j = c.loop-number.number in
    let done = flat_map f (range_with_len 0 j) in
    c.in_ok-push_tick.ensures
    ∙ ap (λ l. l ++ f j) c.loop-number.invariant
    ∙ append_assoc old (blanks ++ done) (f j)
    ∙ ap (λ l. old ++ l) (append_assoc blanks done (f j) ∙ ap (λ l. blanks ++ l) (sym (flat_map-range_more f j)))
