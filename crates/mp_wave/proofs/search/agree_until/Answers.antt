use Rattle.std.proofs.Common.{◌≤◌, inl, inr, arith}
use Rattle.std.proofs.lemmas.Bool.{cases_lt}
use Rattle.mp_wave.specs.Faults.{pair_at}
use Rattle.mp_wave.specs.WaveChanges.{changes_in}
use Rattle.mp_wave.proofs.DifferenceLemmas.{same_until, parted}
use Rattle.mp_wave.proofs.search.agree_until.Goals as goal

pub returns-clause-same : goal.returns-clause-same
returns-clause-same c t lt =
    let next = c.time_at.ensures in
    let here = c.time_at-2.ensures in
    same_until c.args.initial t c.loop-place.place (changes_in c.args.one) (changes_in c.args.other) c.loop-place.invariant
    (λ within. omega (arith, here.first within))
    (λ within. omega (arith, next.first within, here.within))

pub returns-clause-differ : goal.returns-clause-differ
returns-clause-differ c =
    let next = c.time_at.ensures in
    let here = c.time_at-2.ensures in
    parted c.args.initial c.loop-place.place c.args.upto c.time_at.result c.time_at-2.result (changes_in c.args.one) (changes_in c.args.other) c.requires.one_form c.requires.other_form c.loop-place.invariant
    (λ one other same. elim (cases_lt (pair_at (changes_in c.args.one) c.loop-place.place).0 c.args.upto) as (λ _. c.args.upto ≤ (pair_at (changes_in c.args.one) c.loop-place.place).0) [
      | inl less ↦ let has = c.has_same.ensures.same.1 (one, other, same, less) in absurd (cc)
      | inr more ↦ more
    ])
    (record { within = next.within; first = next.first; reached = next.reached })
    (record { within = here.within; first = here.first; reached = here.reached })
