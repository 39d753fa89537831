use Rattle.mp_report.proofs.Names.{◌≡◌, ap, ◌∙◌, map, IfOk, Place, found_over, finding_at}
use Rattle.rayon.proofs.ToStd.{slice-AllZip}
use Rattle.mp_report.proofs.ShareLemmas.{collected}
use Rattle.mp_report.proofs.reporting.found_at_each.Goals as goal

pub returns : goal.returns
returns g c =
    let n = c.args.netlist.now in
    let made = rw c.map.ensures.f at c.in_ok-collect.ensures in
    let chain = made.1 in
    let places = chain.1 ∙ ap (λ it. it.base.slice.now) c.map.ensures.base ∙ ap (λ it. it.slice.now) c.with_min_len.ensures.base ∙ c.par_iter.ensures in
    collected (λ (place : Place) list. list.items ≡ map (finding_at place) (found_over n place)) (λ lists. lists.items) _ c.args.places.now made.0 c.in_ok-collect.field-0
    (slice-AllZip chain.0 c.args.places.now places (λ (place : Place) r. IfOk r (λ list. list.items ≡ map (finding_at place) (found_over n place))) made.0 chain.2)
    made.2
