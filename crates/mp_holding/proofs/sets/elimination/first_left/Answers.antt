use Rattle.std.proofs.Common.{rules, ◌≡◌, ℕ, ◌+◌, ◌<◌, ◌≤◌, ◌⊎◌, inl, inr, true, List, Bool, length, [], replicate, sym, subst, arith}
use Rattle.std.proofs.lemmas.Bool.{cases_lt}
use Rattle.mp_holding.specs.sets.Elimination.{IsGood, gone_after}
use Rattle.mp_holding.proofs.lemmas.sets.LeftLemmas.{first_good, look_good}
use Rattle.mp_holding.proofs.sets.elimination.first_left.Goals as goal

pub loop-number-init : goal.loop-number-init
loop-number-init c =
    let marks : c.in_ok-marks.marks.items ≡ replicate (length c.args.needs.now) true = search rules in
    subst (λ (gone : List ℕ). IsGood c.args.shape c.args.needs.now (λ k. k < 0) c.in_ok-marks.marks.items gone) (sym c.new-gone.ensures.items)
    (subst (λ (marks : List Bool). IsGood c.args.shape c.args.needs.now (λ k. k < 0) marks []) (sym marks) (first_good c.args.shape c.args.needs.now))

pub loop-number-preserved : goal.loop-number-preserved
loop-number-preserved c =
    let number = c.loop-number.number in
    let next : (k : ℕ) → k < number + 1 → (k < number) ⊎ (k ≡ number) = λ k below. by (cases_lt k number) below in
    let low : number < length c.args.needs.now = omega (arith, c.loop-number-test.true) in
    let good = look_good c.args.shape c.args.needs.now number c.loop-number.left.marks.items c.loop-number.left.gone.items low (λ k. k < number) (λ k. k < number + 1) next c.loop-number.invariant in
    subst (λ (gone : List ℕ). IsGood c.args.shape c.args.needs.now (λ k. k < number + 1) c.look.new.self.marks.items gone) (sym c.in_ok-look.ensures.gone)
    (subst (λ (marks : List Bool). IsGood c.args.shape c.args.needs.now (λ k. k < number + 1) marks (gone_after c.args.shape c.args.needs.now number c.loop-number.left.marks.items c.loop-number.left.gone.items)) (sym c.in_ok-look.ensures.marks) good)
  where
    by : {k number : ℕ} → (k < number) ⊎ (number ≤ k) → k < number + 1 → (k < number) ⊎ (k ≡ number)
    by (inl sooner) below = inl sooner
    by (inr past) below = inr (omega (arith, past, below))
