use Rattle.mp_active.proofs.lemmas.agreement.SleepingLemmas.{sleepers_agree, sleepers_sleep_on, modules_fall_asleep}
use Rattle.mp_active.proofs.agreement.laws.sleepers_agree.Goals as goal

pub returns : goal.returns
returns c = record { agree = sleepers_agree; on = sleepers_sleep_on; fall = modules_fall_asleep }
