use Rattle.std.proofs.Common.{◌≡◌, ◌∙◌, ap, rules, Vec, Global}
use Rattle.std.proofs.lemmas.Fn.{always_returns_same}
use Rattle.std.proofs.lemmas.List.Sorted.{IsNonDecreasingBy-from_sort_by_key}
use Rattle.std.specs.List.{flat_map}
use Rattle.mp_questions.specs.declared.late.late.Late.{Late}
use Rattle.mp_questions.specs.late.Searching.{bundle_numbers, late_over}
use Rattle.mp_questions.proofs.lemmas.late.ListLemmas.{flat_map_same}
use Rattle.mp_questions.proofs.lemmas.late.MergeLemmas.{time_of, sorted_late}
use Rattle.mp_questions.proofs.late.bundles.all_late.Goals as goal

pub returns : goal.returns
returns g c =
    let n = c.args.of.netlist.now in
    let sort = c.in_ok-sort_by_key.ensures in
    let items = λ (list : Vec Late Global). list.items in
    sorted_late n c.in_ok-all.all.items c.sort_by_key.new.self.items
    (c.in_ok-all.ensures ∙ ap (flat_map items) c.as_slice.ensures.value ∙ flat_map_same items (late_over n) c.in_ok-lists.lists.items (bundle_numbers n) c.in_ok-lists.ensures)
    (IsNonDecreasingBy-from_sort_by_key time_of c.sort_by_key.new.self.items sort.sorted (λ a r q k. search rules))
    (sort.stable time_of (always_returns_same _ (λ a r. r ≡ time_of a.0.now) _ (λ a r q k. search rules)))
