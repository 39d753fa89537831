use Rattle.std.proofs.Common.{◌≡◌, ℕ, Bool, is_some, filter, length, ap, sym, ◌∙◌, arith}
use Rattle.std.specs.List.{list_all, range_with_len}
use Rattle.mp_netlist.specs.Circuit.{wire_at}
use Rattle.mp_steady.proofs.ListLemmas.{kept_one, kept_none, kept_all}
use Rattle.mp_steady.proofs.ControlLemmas.{all_stand}
use Rattle.mp_steady.proofs.wire_set.all_wires.Goals as goal
use Rattle.mp_steady.proofs.wire_set.all_wires.Goals.{then-stands+in_ok-push, else-stands}

pub loop-number-preserved : goal.loop-number-preserved
loop-number-preserved c =
    let n = c.args.netlist.now in
    let k = c.loop-number.number in
    let stands : ℕ → Bool = (λ w. is_some (wire_at n w)) in
    let old = c.loop-number.found.items in
    elim c.if-stands.branch [
      | then-stands+in_ok-push w ↦ rw w.found-is (kept_one stands k old _ (sym c.stands.ensures ∙ w.if-stands.true) c.loop-number.invariant w.in_ok-push.ensures.items)
      | else-stands w ↦ rw w.found-is (kept_none stands k old (sym c.stands.ensures ∙ w.if-stands.false) c.loop-number.invariant)
    ]

pub returns : goal.returns
returns c =
    let n = c.args.netlist.now in
    let stands : ℕ → Bool = (λ w. is_some (wire_at n w)) in
    let over : c.loop-number.number ≡ length n.wires = omega (arith, c.loop-number-test.false, c.wire_slots-number-end.ensures.value, c.loop-number.auto.number-end) in
    let value = c.loop-number.invariant ∙ ap (λ k. filter stands (range_with_len 0 k)) over in
    record { value = value; stand = all_stand n c.loop-number.found.items (ap (list_all stands) value ∙ kept_all stands stands (range_with_len 0 (length n.wires)) (λ w is. is)) }
