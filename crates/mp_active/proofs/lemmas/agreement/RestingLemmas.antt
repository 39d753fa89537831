-- Modules that aren't at work.
use Rattle.std.proofs.Common.{◌⊎◌, ◌∙◌, sym, arith, inl, inr}
use Rattle.mp_netlist.specs.Circuit.{module_at}
use Rattle.mp_model.specs.Reach.{IsTouched}
use Rattle.mp_depend.specs.work.Work.{Differs, IsApartIn}
use Rattle.mp_depend.proofs.lemmas.work.StayLemmas.{some_is}
use Rattle.mp_active.specs.agreement.Resting.{SleepersRest, UntouchedAreKept}
use Rattle.mp_active.proofs.lemmas.agreement.RecordLemmas.{one_slot}
use Rattle.mp_active.proofs.lemmas.agreement.SleepingLemmas.{sleepers_agree}

pub sleepers_rest : SleepersRest
sleepers_rest old new old_ok new_ok revised since t m c to r sleeps from within ends = by
  where
    by : IsTouched old new m ⊎ Differs old new m c ⊎ IsApartIn old new m c to → ⊥
    by (inl touched) = touched.differ (sleeps.kept.before ∙ sym sleeps.kept.after)
    by (inr (inl differs)) =
        let before = differs.before in
        differs.differ (sleepers_agree old new old_ok new_ok revised since t m r sleeps differs.last (omega (arith, before, from)) (omega (arith, before, within)))
    by (inr (inr found)) = sleeps.quiet found.0 (omega (arith, from, found.1)) (omega (arith, found.2, ends)) found.3

pub untouched_are_kept : UntouchedAreKept
untouched_are_kept old new m r at not = record {
  before = one_slot (module_at old m) (module_at new m) (λ differ. not (record { stands = some_is (module_at new m) r at; differ = differ })) ∙ at;
  after = at;
}
