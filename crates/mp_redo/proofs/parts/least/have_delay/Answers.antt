use Rattle.std.proofs.Common.{◌≡◌, subst, arith, inl, inr}
use Rattle.std.proofs.lemmas.Bool.{cases_lt}
use Rattle.mp_redo.specs.parts.Drivers.{HasDelay}
use Rattle.mp_redo.proofs.parts.least.have_delay.Goals as goal

pub loop-part-preserved : goal.loop-part-preserved
loop-part-preserved c = λ k low.
    let n = c.args.netlist.now in
    elim (cases_lt k c.loop-part.part) as (λ _. HasDelay n c.args.homes.now k c.args.delay) [
      | inl before ↦ c.loop-part.invariant k before
      | inr now ↦
          let same : c.loop-part.part ≡ k = omega (arith, low, now) in
          subst (λ j. HasDelay n c.args.homes.now j c.args.delay) same (c.has_delay.ensures c.if-not-has_delay.false)
    ]

pub returns : goal.returns
returns c = λ _ k low. c.loop-part.invariant k (omega (arith, low))
