use Rattle.mp_report.proofs.Names.{sym, ◌∙◌, changes_in}
use Rattle.mp_report.proofs.AheadLemmas.{changes_now, first_is}
use Rattle.mp_report.proofs.ahead.Ahead.changes_at.Goals as goal

pub returns-in-Some : goal.returns-in-Some
returns-in-Some c f end is within =
    let head = first_is (changes_in c.args.self.changes) c.in-Some.change (sym c.first.ensures.value ∙ c.in-Some.is) in
    changes_now f end c.args.time c.args.self c.in-Some.change head.0 is head.1 within
