use Rattle.std.proofs.Common.{◌≡◌, true, ap, ◌∙◌, arith, inl, inr}
use Rattle.std.proofs.lemmas.Bool.{cases_eq}
use Rattle.mp_partition.specs.runs.Marks.{is_marked}
use Rattle.mp_near.proofs.reach.named.marks_from.Goals as goal

pub loop-number-preserved : goal.loop-number-preserved
loop-number-preserved c =
    let is = c.loop-number.invariant in
    let next = c.mark.new.marks.items in
    let test = c.loop-number-test.true in
    let size = is.places in
    record {
      places = c.mark.ensures.grown.places ∙ is.places;
      marked = λ k at low. elim (cases_eq k c.loop-number.number) as (λ _. is_marked next k ≡ true) [
        | inl here ↦ ap (λ j. is_marked next j) here ∙ c.mark.ensures.marked (omega (arith, test, size))
        | inr other ↦ c.mark.ensures.grown.kept k (is.marked k at (omega arith))
      ];
    }

pub returns-clause-marked : goal.returns-clause-marked
returns-clause-marked c = λ k at low. c.loop-number.invariant.marked k at (let over = c.loop-number-test.false in omega (arith, over, low))
