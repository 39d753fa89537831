use Rattle.mp_simulation.proofs.lemmas.units.KnownLemmas.{toggles, changes, levels}
use Rattle.mp_simulation.proofs.units.laws.changes_ahead.Goals as goal

pub returns-clause-toggles : goal.returns-clause-toggles
returns-clause-toggles c = toggles

pub returns-clause-changes : goal.returns-clause-changes
returns-clause-changes c = changes

pub returns-clause-levels : goal.returns-clause-levels
returns-clause-levels c = levels
