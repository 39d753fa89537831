use Rattle.mp_modules.proofs.ArbiterRuns.{grants_one_a_unit, grants_while_free, owns_from_grant, ends_each_grant, asks_each_grant}
use Rattle.mp_modules.proofs.laws.arbiter_grants_one_at_a_time.Goals as goal

pub returns-clause-one : goal.returns-clause-one
returns-clause-one c = grants_one_a_unit

pub returns-clause-free : goal.returns-clause-free
returns-clause-free c = grants_while_free

pub returns-clause-owns : goal.returns-clause-owns
returns-clause-owns c = owns_from_grant

pub returns-clause-ended : goal.returns-clause-ended
returns-clause-ended c = ends_each_grant

pub returns-clause-asked : goal.returns-clause-asked
returns-clause-asked c = asks_each_grant
