use Rattle.std.proofs.Common.{◌≡◌, ap, ◌∙◌, IfOk}
use Rattle.rayon.proofs.ToStd.{slice-AllZip}
use Rattle.mp_report.proofs.ShareLemmas.{collected}
use Rattle.mp_records.specs.declared.ids.BundleId.{BundleId}
use Rattle.mp_questions.specs.late.Searching.{late_over}
use Rattle.mp_questions.proofs.late.bundles.late_at_each.Goals as goal

pub returns : goal.returns
returns g c =
    let n = c.args.of.netlist.now in
    let made = rw c.map.ensures.f at c.in_ok-collect.ensures in
    let chain = made.1 in
    let ids = chain.1 ∙ ap (λ it. it.base.slice.now) c.map.ensures.base ∙ ap (λ it. it.slice.now) c.with_min_len.ensures.base ∙ c.par_iter.ensures in
    collected (λ (id : BundleId) list. list.items ≡ late_over n id) (λ lists. lists.items) _ c.args.bundles.now made.0 c.in_ok-collect.field-0
    (slice-AllZip chain.0 c.args.bundles.now ids (λ (id : BundleId) r. IfOk r (λ list. list.items ≡ late_over n id)) made.0 chain.2)
    made.2
