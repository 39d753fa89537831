-- The states of modules that sleep.
use Rattle.std.proofs.Common.{◌≡◌, ◌+◌, subst, arith, inl, inr}
use Rattle.std.proofs.lemmas.Bool.{cases_lt}
use Rattle.mp_model.specs.Waves.{state}
use Rattle.mp_model.specs.Reach.{IsApart}
use Rattle.mp_depend.proofs.lemmas.work.StayLemmas.{states_stay}
use Rattle.mp_active.specs.agreement.Sleeping.{SleepersAgree, SleepersSleepOn, ModulesFallAsleep}

pub sleepers_agree : SleepersAgree
sleepers_agree old new old_ok new_ok revised since t m r sleeps u from within = elim (cases_lt u since) as (λ _. state old m u ≡ state new m u) [
  | inl earlier ↦ sleeps.agreed u (omega (arith, from, earlier))
  | inr later ↦ states_stay old new old_ok new_ok revised m r sleeps.kept since (t + 1) sleeps.agreed (λ k low high. sleeps.quiet k low (omega (arith, high))) u later (omega (arith, within))
]

pub sleepers_sleep_on : SleepersSleepOn
sleepers_sleep_on old new since t m r sleeps not = record {
  kept = sleeps.kept;
  begun = let begun = sleeps.begun in omega (arith, begun);
  agreed = sleeps.agreed;
  quiet = λ u low high. elim (cases_lt u (t + 1)) as (λ _. IsApart old new m u → ⊥) [
    | inl earlier ↦ sleeps.quiet u low (omega (arith, earlier))
    | inr next ↦ let e : t + 1 ≡ u = omega (arith, next, high) in subst (λ k. IsApart old new m k → ⊥) e not
  ];
}

pub modules_fall_asleep : ModulesFallAsleep
modules_fall_asleep old new t m r kept same = record {
  kept = kept;
  begun = omega arith;
  agreed = λ u e. let last : t ≡ u = omega (arith, e) in subst (λ k. state old m k ≡ state new m k) last same;
  quiet = λ u low high apart. let no : ⊥ = omega (arith, low, high) in no;
}
