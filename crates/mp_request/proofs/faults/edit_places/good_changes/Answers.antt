use Rattle.std.proofs.Common.{sym, arith}
use Rattle.mp_request.proofs.lemmas.faults.StepLemmas.{good_next, good_stop, good_end}
use Rattle.mp_request.proofs.faults.edit_places.good_changes.Goals as goal

pub returns-then-not-is_good-clause-value : goal.returns-then-not-is_good-clause-value
returns-then-not-is_good-clause-value c =
    let stop = good_stop c.args.horizon c.args.width c.loop-place.before c.loop-place.place c.args.changes.now (0, 0) (omega arith) (sym c.if-not-is_good.ensures) in
    omega (arith, stop)

pub loop-place-preserved : goal.loop-place-preserved
loop-place-preserved c =
    let next = good_next c.args.horizon c.args.width c.loop-place.before c.loop-place.place c.args.changes.now (0, 0) (omega arith) (sym c.if-not-is_good.ensures) in
    omega (arith, next)

pub returns-clause-value : goal.returns-clause-value
returns-clause-value c =
    let end = good_end c.args.horizon c.args.width c.loop-place.before c.loop-place.place c.args.changes.now (omega arith) in
    omega (arith, end)
