use Rattle.mp_report.proofs.Names.{◌≡◌, ◌∙◌, rules, map, Vec, Global, Place, Finding, places, found_over, finding_at}
use Rattle.std.proofs.lemmas.Fn.{always_returns_same}
use Rattle.std.proofs.lemmas.List.Sorted.{IsNonDecreasingBy-from_sort_by_key}
use Rattle.mp_report.proofs.MergeLemmas.{time_of, sorted_findings}
use Rattle.mp_report.proofs.ShareLemmas.{joined_lists}
use Rattle.mp_report.proofs.reporting.report.Goals as goal

pub returns : goal.returns
returns g c =
    let n = c.args.netlist.now in
    let sort = c.in_ok-sort_by_key.ensures in
    sorted_findings n c.in_ok-all.all.items c.sort_by_key.new.self.items
    (c.in_ok-all.ensures
    ∙ joined_lists (λ (place : Place). map (finding_at place) (found_over n place)) (λ (list : Vec Finding Global). list.items) (places n) c.as_slice-2.result.now
    (rw (c.as_slice-2.ensures.value, ← (c.as_slice.ensures.value ∙ c.in_ok-places.ensures)) c.in_ok-lists.ensures))
    (IsNonDecreasingBy-from_sort_by_key time_of c.sort_by_key.new.self.items sort.sorted (λ a r q k. search rules))
    (sort.stable time_of (always_returns_same _ (λ a r. r ≡ time_of a.0.now) _ (λ a r q k. search rules)))
