use Rattle.std.proofs.Common.{◌≡◌, ◌+◌, length, arith}
use Rattle.mp_check.specs.Ways.{least, way}
use Rattle.mp_check.specs.Doubling.{beyond, next_in}
use Rattle.mp_check.proofs.WayLemmas.{one_if, number_below, beyond_none, least_none}
use Rattle.mp_check.proofs.rounds.doubled.Goals as goal

pub returns : goal.returns
returns c count are =
    let n = c.args.next.now in
    let all = count + count + one_if c.args.and_one in
    let over : c.loop-number.number ≡ length n = omega arith in
    let is = c.loop-number.invariant in
    record {
      beyond_is = number_below (beyond (next_in n) all) (length n) c.loop-number.beyond.items (omega (arith, is.0, over)) (beyond_none n all) (λ k below. is.2 count k are (omega (arith, below, over)));
      least_is = number_below (λ k. least (length n) (way (next_in n) all k)) (length n) c.loop-number.least.items (omega (arith, is.1, over)) (least_none n all) (λ k below. is.3 count k are (omega (arith, below, over)));
    }
