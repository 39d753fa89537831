use Rattle.std.proofs.Common.{◌≡◌, max, map, ap, sym, ◌∙◌, arith}
use Rattle.std.specs.List.{range_with_len}
use Rattle.mp_check.specs.Over.{delay_at, greatest}
use Rattle.mp_check.proofs.OverLemmas.{greatest_next}
use Rattle.mp_check.proofs.over.longest_delay.Goals as goal

pub loop-number-preserved : goal.loop-number-preserved
loop-number-preserved c =
    let n = c.args.end.now.at.netlist.now in
    let k = c.loop-number.number in
    let greater : c.max-longest.result ≡ max c.loop-number.longest c.delay_at.result = omega (arith, c.max-longest.ensures) in
    greater ∙ ap (λ a. max a c.delay_at.result) c.loop-number.invariant ∙ ap (max (greatest (map (delay_at n) (range_with_len 0 k)))) c.delay_at.ensures ∙ sym (greatest_next (delay_at n) k)
