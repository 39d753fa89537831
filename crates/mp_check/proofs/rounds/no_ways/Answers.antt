use Rattle.std.proofs.Common.{◌≡◌, length, refl, arith}
use Rattle.mp_check.proofs.WayLemmas.{number_below}
use Rattle.mp_check.proofs.rounds.no_ways.Goals as goal

pub returns : goal.returns
returns c =
    let n = c.args.next.now in
    let over : c.loop-number.number ≡ length n = omega arith in
    let is = c.loop-number.invariant in
    record {
      beyond_is = number_below (λ k. k) (length n) c.loop-number.beyond.items (omega (arith, is.0, over)) refl (λ k below. is.2 k (omega (arith, below, over)));
      least_is = number_below (λ k. length n) (length n) c.loop-number.least.items (omega (arith, is.1, over)) refl (λ k below. is.3 k (omega (arith, below, over)));
    }
