use Rattle.mp_modules.proofs.SelectLemmas.{has_each_event, true_where_one, false_where_not}
use Rattle.mp_modules.proofs.laws.select_gives_each_event_once.Goals as goal

pub returns-clause-each : goal.returns-clause-each
returns-clause-each c = has_each_event

pub returns-clause-on_true : goal.returns-clause-on_true
returns-clause-on_true c = true_where_one

pub returns-clause-on_false : goal.returns-clause-on_false
returns-clause-on_false c = false_where_not
