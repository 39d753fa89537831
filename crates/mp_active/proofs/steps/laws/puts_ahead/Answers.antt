use Rattle.mp_active.proofs.lemmas.steps.AheadLemmas.{puts_ahead}
use Rattle.mp_active.proofs.lemmas.steps.RestingLemmas.{none_ahead, resting_have_nothing}
use Rattle.mp_active.proofs.steps.laws.puts_ahead.Goals as goal

pub returns-clause-puts : goal.returns-clause-puts
returns-clause-puts c = puts_ahead

pub returns-clause-none : goal.returns-clause-none
returns-clause-none c = none_ahead

pub returns-clause-resting : goal.returns-clause-resting
returns-clause-resting c = resting_have_nothing
