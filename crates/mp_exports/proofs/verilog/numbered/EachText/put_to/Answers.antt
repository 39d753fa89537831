use Rattle.std.proofs.Common.{◌≡◌, arith}
use Rattle.mp_streams.proofs.OutLemmas.{writes_failed}
use Rattle.mp_exports.proofs.lemmas.verilog.NumberLemmas.{items_next, items_stopped, items_over}
use Rattle.mp_exports.proofs.verilog.numbered.EachText.put_to.Goals as goal

pub returns-in_err-put_item : goal.returns-in_err-put_item
returns-in_err-put_item g c =
    writes_failed _ c.from_residual.ensures.0
    (items_stopped (g.T.Numbered.item c.args.self.now.items) _ c.loop-number.number c.loop-number-test.true c.loop-number.invariant c.in_err-put_item.ensures)

pub loop-number-preserved : goal.loop-number-preserved
loop-number-preserved g c =
    items_next (g.T.Numbered.item c.args.self.now.items) _ c.loop-number.number c.loop-number-test.true c.loop-number.invariant c.in_ok-put_item.ensures

pub returns : goal.returns
returns g c =
    let over : c.loop-number.number ≡ c.args.self.now.count = omega (arith, c.loop-number.auto.number-end, c.loop-number-test.false) in
    items_over (g.T.Numbered.item c.args.self.now.items) _ c.loop-number.number over c.loop-number.invariant
