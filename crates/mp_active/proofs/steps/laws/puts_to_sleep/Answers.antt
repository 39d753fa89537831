use Rattle.mp_active.proofs.lemmas.steps.AsleepLemmas.{none_asleep, puts_more_to_sleep}
use Rattle.mp_active.proofs.steps.laws.puts_to_sleep.Goals as goal

pub returns-clause-none : goal.returns-clause-none
returns-clause-none c = none_asleep

pub returns-clause-more : goal.returns-clause-more
returns-clause-more c = puts_more_to_sleep
