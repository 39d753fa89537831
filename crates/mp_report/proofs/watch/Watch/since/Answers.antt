use Rattle.mp_report.proofs.Names.{rules}
use Rattle.mp_report.proofs.watch.Watch.since.Goals as goal

pub returns : goal.returns
returns c n b ahead within = search (rules, c.since.ensures, c.since-2.ensures, c.since-3.ensures)
