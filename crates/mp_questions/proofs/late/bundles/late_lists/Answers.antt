use Rattle.std.proofs.Common.{◌≡◌, List, map, Ok, Err, Result, IfOk, Vec, Global, ap, ◌∙◌}
use Rattle.std.specs.declared.alloc.AllocError.{AllocError}
use Rattle.std.specs.List.{AllZip}
use Rattle.mp_records.specs.declared.ids.BundleId.{BundleId}
use Rattle.mp_netlist.specs.Circuit.{Circuit}
use Rattle.mp_questions.specs.declared.late.late.Late.{Late}
use Rattle.mp_questions.specs.late.Lists.{late_lists}
use Rattle.mp_questions.specs.late.Searching.{bundle_numbers, late_over}
use Rattle.mp_questions.proofs.lemmas.late.ListLemmas.{zip_map}
use Rattle.mp_questions.proofs.late.bundles.late_lists.Goals as goal

listed : (n : Circuit) (ids : List BundleId) → ids ≡ bundle_numbers n → (r : Result (Vec (Vec Late Global) Global) AllocError)
    → IfOk r (λ lists. AllZip (λ (id : BundleId) (list : Vec Late Global). list.items ≡ late_over n id) ids lists.items)
    → IfOk r (λ lists. map (λ (list : Vec Late Global). list.items) lists.items ≡ late_lists n)
listed n ids are (Ok lists) zip = zip_map (late_over n) (λ (list : Vec Late Global). list.items) ids lists.items zip ∙ ap (map (late_over n)) are
listed n ids are (Err error) zip = tt

pub returns : goal.returns
returns g c =
    let n = c.args.of.netlist.now in
    listed n c.as_slice.result.now (c.as_slice.ensures.value ∙ c.in_ok-bundles.ensures) c.late_at_each.result c.late_at_each.ensures
