use Rattle.mp_laws.proofs.OverRunLemmas.{nothing_changes_again}
use Rattle.mp_laws.proofs.over_runs.nothing_changes_again.Goals as goal

pub returns : goal.returns
returns c = nothing_changes_again
