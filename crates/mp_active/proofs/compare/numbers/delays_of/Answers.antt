use Rattle.std.proofs.Common.{arith}
use Rattle.mp_active.proofs.lemmas.compare.NumberingLemmas.{all_noted}
use Rattle.mp_active.proofs.compare.numbers.delays_of.Goals as goal

pub returns-clause-right : goal.returns-clause-right
returns-clause-right c source has =
    let over = c.loop-wire-test.false in
    all_noted source c.args.next.now c.args.wires c.loop-wire.wire c.loop-wire.delays.items has (omega arith) (c.loop-wire.invariant.noted source has)
