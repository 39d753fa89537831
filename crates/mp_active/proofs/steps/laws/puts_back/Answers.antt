use Rattle.mp_active.proofs.lemmas.steps.BackLemmas.{puts_back, puts_levels_back}
use Rattle.mp_active.proofs.steps.laws.puts_back.Goals as goal

pub returns-clause-toggles : goal.returns-clause-toggles
returns-clause-toggles c = puts_back

pub returns-clause-levels : goal.returns-clause-levels
returns-clause-levels c = puts_levels_back
