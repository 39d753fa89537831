use Rattle.mp_report.proofs.Names.{arith, nat_tests, last_time-changes_after, AreChanges-changes_after, level_from-changes_after}
use Rattle.mp_report.proofs.ahead.Ahead.of.Goals as goal

pub returns : goal.returns
returns c f end some is = grind (arith, nat_tests, c.initial.ensures.value, c.changes.ensures.value, last_time-changes_after, AreChanges-changes_after, level_from-changes_after)
