use Rattle.std.proofs.Common.{◌≡◌, filter, length, ap, sym, ◌∙◌, arith}
use Rattle.std.specs.List.{range_with_len}
use Rattle.mp_steady.specs.Reaching.{mark_at}
use Rattle.mp_steady.proofs.ListLemmas.{kept_one, kept_none}
use Rattle.mp_steady.proofs.control.marked.Goals as goal
use Rattle.mp_steady.proofs.control.marked.Goals.{then-is_marked+in_ok-push, else-is_marked}

pub loop-number-preserved : goal.loop-number-preserved
loop-number-preserved c =
    let marks = c.args.marks.now in
    let k = c.loop-number.number in
    let old = c.loop-number.found.items in
    elim c.if-is_marked.branch [
      | then-is_marked+in_ok-push w ↦ rw w.found-is (kept_one (mark_at marks) k old _ (sym c.is_marked.ensures ∙ w.if-is_marked.true) c.loop-number.invariant w.in_ok-push.ensures.items)
      | else-is_marked w ↦ rw w.found-is (kept_none (mark_at marks) k old (sym c.is_marked.ensures ∙ w.if-is_marked.false) c.loop-number.invariant)
    ]

pub returns : goal.returns
returns c =
    let over : c.loop-number.number ≡ length c.args.netlist.now.wires = omega (arith, c.loop-number-test.false, c.wire_slots-number-end.ensures.value, c.loop-number.auto.number-end) in
    c.loop-number.invariant ∙ ap (λ k. filter (mark_at c.args.marks.now) (range_with_len 0 k)) over
