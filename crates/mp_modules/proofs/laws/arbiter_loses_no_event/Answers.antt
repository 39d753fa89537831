use Rattle.mp_modules.proofs.ArbiterRuns.{grants_each_request, ends_each_grant_once, nobody_waits_while_free}
use Rattle.mp_modules.proofs.laws.arbiter_loses_no_event.Goals as goal

pub returns-clause-requests : goal.returns-clause-requests
returns-clause-requests c = grants_each_request

pub returns-clause-dones : goal.returns-clause-dones
returns-clause-dones c = ends_each_grant_once

pub returns-clause-waits : goal.returns-clause-waits
returns-clause-waits c = nobody_waits_while_free
