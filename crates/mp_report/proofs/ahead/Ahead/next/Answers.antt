use Rattle.mp_report.proofs.Names.{◌≡◌, ℕ, subst, sym, ◌∙◌, arith, true, has_event, changes_in}
use Rattle.mp_report.proofs.AheadLemmas.{first_event, first_is}
use Rattle.mp_report.proofs.ahead.Ahead.next.Goals as goal

pub returns-in-Some-clause-event : goal.returns-in-Some-clause-event
returns-in-Some-clause-event c f most time is less =
    let head = first_is (changes_in c.args.self.changes) c.in-Some.change (sym c.first.ensures.value ∙ c.in-Some.is) in
    let same : c.in-Some.change.0 ≡ c.min.result = omega (arith, c.min.ensures, less) in
    subst (λ (t : ℕ). has_event f t ≡ true) same (first_event f most time c.args.self c.in-Some.change head.0 is head.1)
