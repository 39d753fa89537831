use Rattle.std.proofs.Common.{◌≡◌, ℕ, max, map, ap, sym, ◌∙◌, arith}
use Rattle.std.specs.List.{range_with_len}
use Rattle.mp_model.specs.Waves.{level}
use Rattle.mp_questions.specs.timing.Events.{since}
use Rattle.mp_check.specs.Dead.{last_unit}
use Rattle.mp_check.specs.Over.{greatest}
use Rattle.mp_check.proofs.OverLemmas.{greatest_next}
use Rattle.mp_check.proofs.over.last_change.Goals as goal

pub loop-number-preserved : goal.loop-number-preserved
loop-number-preserved c =
    let n = c.args.end.now.at.netlist.now in
    let k = c.loop-number.number in
    let f : ℕ → ℕ = (λ w. since (level n w) (last_unit n)) in
    let greater : c.max-latest.result ≡ max c.loop-number.latest c.since.result = omega (arith, c.max-latest.ensures) in
    greater ∙ ap (λ a. max a c.since.result) c.loop-number.invariant ∙ ap (max (greatest (map f (range_with_len 0 k)))) c.since.ensures ∙ sym (greatest_next f k)
