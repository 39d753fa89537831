use Rattle.mp_modules.proofs.CallRuns.{has_one_pending, returns_to_askers}
use Rattle.mp_modules.proofs.laws.call_serves_one_at_a_time.Goals as goal

pub returns-clause-pending : goal.returns-clause-pending
returns-clause-pending c = has_one_pending

pub returns-clause-asked : goal.returns-clause-asked
returns-clause-asked c = returns_to_askers
