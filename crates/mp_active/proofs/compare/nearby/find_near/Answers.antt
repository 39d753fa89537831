use Rattle.std.proofs.Common.{ℕ, ◌-◌, ◌<◌, ◌≤◌, List, length, subst, arith}
use Rattle.mp_wave.specs.Faults.{pair_at}
use Rattle.mp_active.proofs.lemmas.compare.NearLemmas.{cut_at}
use Rattle.mp_active.proofs.compare.nearby.find_near.Goals as goal

pub returns-then-is_cut : goal.returns-then-is_cut
returns-then-is_cut c =
    let time = c.args.time in
    let count = c.min-first.result in
    let is = c.changes-changes.ensures.value in
    let least = c.min-first.ensures in
    let long = c.len.ensures in
    cut_at time c.args.wave.now.initial count c.args.wave.now.changes c.changes-changes.ensures.form
    (subst (λ (xs : List (ℕ × ℕ)). count ≤ length xs) is (omega (arith, least, long)))
    (subst (λ (xs : List (ℕ × ℕ)). 0 < count → (pair_at xs (count - 1)).0 ≤ time) is (c.is_cut.ensures.by c.if-is_cut.true))
    (subst (λ (xs : List (ℕ × ℕ)). count < length xs → time < (pair_at xs count).0) is (c.is_cut.ensures.later c.if-is_cut.true))

pub returns-then-is_cut-2 : goal.returns-then-is_cut-2
returns-then-is_cut-2 c =
    let time = c.args.time in
    let count = c.step_near-count.result in
    let is = c.changes-changes.ensures.value in
    cut_at time c.args.wave.now.initial count c.args.wave.now.changes c.changes-changes.ensures.form
    (subst (λ (xs : List (ℕ × ℕ)). count ≤ length xs) is c.step_near-count.ensures)
    (subst (λ (xs : List (ℕ × ℕ)). 0 < count → (pair_at xs (count - 1)).0 ≤ time) is (c.is_cut-2.ensures.by c.if-is_cut-2.true))
    (subst (λ (xs : List (ℕ × ℕ)). count < length xs → time < (pair_at xs count).0) is (c.is_cut-2.ensures.later c.if-is_cut-2.true))
