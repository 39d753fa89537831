use Rattle.std.proofs.Common.{◌≡◌, ◌+◌, length, map, ap, ◌∙◌, subst}
use Rattle.std.specs.Prelude.{IfSome}
use Rattle.std.proofs.lemmas.List.{length-map}
use Rattle.mp_partition.specs.regions.Regions.{region}
use Rattle.mp_partition.specs.regions.Divisions.{heard_by}
use Rattle.mp_partition.specs.merging.PartRuns.{IsPartRun}
use Rattle.mp_engine.specs.PartsOf.{AreOthers}
use Rattle.mp_engine.proofs.TaskLemmas.{if_ok, if_some}
use Rattle.mp_engine.proofs.together.fn.run_apart.scope.Goals as goal

pub returns-in-Ok : goal.returns-in-Ok
returns-in-Ok g c =
    let it = c.captures.first in
    let count = subst (λ o. IfSome o (λ others. length others.items + 1 ≡ it.division.now.parts)) c.in-Some.is c.in_ok-others.ensures.count in
    let others = subst (λ o. IfSome o (λ others. AreOthers it.netlist.now it.division.now it.keeps (map (λ other. other.promise) others.items))) c.in-Some.is c.in_ok-others.ensures.others in
    let first = subst (λ part. IsPartRun (region it.netlist.now it.division.now.homes.items part (heard_by it.division.now.heard.items part)) it.keeps c.in-Ok.run') c.requires.first.1 c.in-Ok.ensures in
    if_ok c.join_others.result _ _ (λ found. if_some found _ _ (λ runs gives. gives it.netlist.now it.division.now it.keeps (ap (λ k. k + 1) (length-map c.in-Some.others.items (λ other. other.promise)) ∙ count) first others)) c.join_others.ensures
