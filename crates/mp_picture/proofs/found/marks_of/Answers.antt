use Rattle.std.proofs.Common.{◌≡◌, ◌<◌, ◌++◌, [], ◌∷◌, ℕ, List, length, map, take, get_or, ap, sym, ◌∙◌, zero-add, arith}
use Rattle.std.proofs.lemmas.List.{map_more, take_all}
use Rattle.std.proofs.lemmas.List.FromFn.{get_or-range_with_len, length-range_with_len}
use Rattle.mp_picture.specs.Columns.{count, numbers}
use Rattle.mp_picture.specs.MarkedColumns.{mark_in}
use Rattle.mp_picture.proofs.found.marks_of.Goals as goal

pub loop-column-preserved : goal.loop-column-preserved
loop-column-preserved c =
    let cs = c.args.columns in
    let mark = mark_in c.args.marked.now c.args.place in
    let j = c.loop-column.column in
    let within : j < count cs = omega (arith, c.count-column-end.ensures) in
    let low : j < length (numbers cs) = omega (arith, within, length-range_with_len 0 (count cs)) in
    let here : get_or (numbers cs) j 0 ≡ j = get_or-range_with_len 0 (count cs) j 0 within ∙ zero-add j in
    c.in_ok-push.ensures.items
    ∙ ap (λ (ms : List ℕ). ms ++ c.mark_in.result ∷ []) c.loop-column.invariant
    ∙ ap (λ (m : ℕ). map mark (take j (numbers cs)) ++ m ∷ []) (c.mark_in.ensures ∙ ap mark (sym here))
    ∙ sym (map_more mark (numbers cs) j 0 low)

pub returns : goal.returns
returns c =
    let cs = c.args.columns in
    let over : c.loop-column.column ≡ count cs = omega (arith, c.count-column-end.ensures) in
    c.loop-column.invariant ∙ ap (map (mark_in c.args.marked.now c.args.place)) (take_all c.loop-column.column (numbers cs) (omega (arith, over, length-range_with_len 0 (count cs))))
