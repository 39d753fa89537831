use Rattle.std.proofs.Common.{ℕ, ◌-◌, ◌<◌, ◌≤◌, List, subst}
use Rattle.mp_wave.specs.Faults.{pair_at}
use Rattle.mp_active.proofs.lemmas.compare.NearLemmas.{none_after}
use Rattle.mp_active.proofs.compare.nearby.rests_near.Goals as goal

pub returns-in-Some-clause-none : goal.returns-in-Some-clause-none
returns-in-Some-clause-none c = λ told.
    let count = c.in-Some.count in
    let from = c.args.from in
    none_after from c.args.upto c.args.wave.now.initial count c.args.wave.now.changes c.changes.ensures.form c.in-Some.ensures
    (subst (λ (xs : List (ℕ × ℕ)). 0 < count → (pair_at xs (count - 1)).0 ≤ from) c.changes.ensures.value (c.is_by.ensures told))
