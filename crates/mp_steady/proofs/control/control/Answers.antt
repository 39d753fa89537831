use Rattle.std.proofs.Common.{◌≡◌, ◌≤◌, Bool, List, filter, length, ap, ◌∙◌, arith}
use Rattle.std.specs.List.{range_with_len}
use Rattle.std.proofs.lemmas.Result.{IfOk-weaker}
use Rattle.mp_steady.specs.Reaching.{mark_at}
use Rattle.mp_steady.proofs.ControlLemmas.{control_is, control_stands, order_low}
use Rattle.mp_steady.proofs.control.control.Goals as goal

pub loop-place-smaller : goal.loop-place-smaller
loop-place-smaller c =
    let low = order_low c.args.of.netlist.now c.loop-place.reached.marks.items c.loop-place.reached.order.items c.loop-place.invariant.reached in
    omega (arith, c.loop-place-test.true, low)

pub loop-place-preserved : goal.loop-place-preserved
loop-place-preserved c = record {
  reached = c.in_ok-add_inputs.ensures.reached;
  events = λ w low is. c.in_ok-add_inputs.ensures.kept w (c.loop-place.invariant.events w low is);
  followed = c.in_ok-add_inputs.ensures.followed;
}

pub returns : goal.returns
returns c =
    let n = c.args.of.netlist.now in
    let kept = c.loop-place.invariant in
    let marks = c.loop-place.reached.marks.items in
    let order = c.loop-place.reached.order.items in
    let past : length order ≤ c.loop-place.place = omega (arith, c.loop-place-test.false) in
    let all : filter (mark_at c.as_slice.result.now) (range_with_len 0 (length n.wires)) ≡ _ =
    ap (λ (ms : List Bool). filter (mark_at ms) (range_with_len 0 (length n.wires))) c.as_slice.ensures.value ∙ control_is n marks order c.loop-place.place kept.reached kept.events kept.followed past in
    record {
      value = IfOk-weaker c.marked.result _ _ (λ found is. is ∙ all) c.marked.ensures;
      stand = IfOk-weaker c.marked.result _ _ (λ found is. control_stands n found.items (is ∙ all)) c.marked.ensures;
    }
