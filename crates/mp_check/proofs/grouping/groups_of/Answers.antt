use Rattle.std.proofs.Common.{◌≡◌, ◌∙◌, ap, rules}
use Rattle.std.proofs.lemmas.Fn.{always_returns_same}
use Rattle.std.proofs.lemmas.List.Sorted.{IsNonDecreasingBy-from_sort_by_key}
use Rattle.mp_check.specs.Problems.{groups}
use Rattle.mp_check.specs.Selections.{selected}
use Rattle.mp_check.proofs.ProblemLemmas.{first_time, sorted_groups}
use Rattle.mp_check.proofs.grouping.groups_of.Goals as goal

pub returns : goal.returns
returns c =
    let sort = c.in_ok-sort_by_key.ensures in
    sorted_groups c.args.netlist.now (selected c.args.selection) c.in_ok-groups.groups.items c.sort_by_key.new.self.items
    (c.in_ok-groups.ensures ∙ ap groups (c.as_slice.ensures.value ∙ c.in_ok-problems.ensures))
    (IsNonDecreasingBy-from_sort_by_key first_time c.sort_by_key.new.self.items sort.sorted (λ a r q k. search rules))
    (sort.stable first_time (always_returns_same _ (λ a r. r ≡ first_time a.0.now) _ (λ a r q k. search rules)))
