use Rattle.std.proofs.Common.{◌≡◌, arith}
use Rattle.mp_streams.proofs.OutLemmas.{writes_failed}
use Rattle.mp_exports.proofs.lemmas.verilog.NumberLemmas.{list_next, list_stopped, list_still, list_over}
use Rattle.mp_exports.proofs.verilog.listed.SeparatedText.put_to.Goals as goal

pub returns-in_err-put_item : goal.returns-in_err-put_item
returns-in_err-put_item g c =
    writes_failed _ c.from_residual.ensures.0
    (list_stopped (g.T.Listed.item c.args.self.now.items) _ c.loop-number.number c.loop-number.is_first c.loop-number-test.true c.loop-number.invariant.1 c.loop-number.invariant.0
    c.in_err-put_item.ensures)

pub loop-number-preserved : goal.loop-number-preserved
loop-number-preserved g c = (
  list_next (g.T.Listed.item c.args.self.now.items) _ c.loop-number.number c.loop-number.is_first c.loop-number-test.true c.loop-number.invariant.1 c.loop-number.invariant.0
      c.in_ok-put_item.ensures,
  list_still (g.T.Listed.item c.args.self.now.items) _ c.loop-number.number c.loop-number.is_first c.has_item-has_item.result c.is_still_first-is_first.result c.loop-number-test.true
      c.loop-number.invariant.1 c.has_item-has_item.ensures c.is_still_first-is_first.ensures,
)

pub returns : goal.returns
returns g c =
    let over : c.loop-number.number ≡ c.args.self.now.count = omega (arith, c.loop-number.auto.number-end, c.loop-number-test.false) in
    list_over (g.T.Listed.item c.args.self.now.items) _ c.loop-number.number over c.loop-number.invariant.0
