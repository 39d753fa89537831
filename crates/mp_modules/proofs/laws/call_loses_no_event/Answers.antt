use Rattle.mp_modules.proofs.CallRuns.{serves_each_request, returns_each_done}
use Rattle.mp_modules.proofs.laws.call_loses_no_event.Goals as goal

pub returns-clause-requests : goal.returns-clause-requests
returns-clause-requests c = serves_each_request

pub returns-clause-dones : goal.returns-clause-dones
returns-clause-dones c = returns_each_done
