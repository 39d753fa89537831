use Rattle.std.proofs.Common.{◌≡◌, ℕ, ◌+◌, ◌-◌, Bool, List, sym, ap, ◌∙◌, subst, arith}
use Rattle.mp_netlist.specs.Circuit.{Circuit}
use Rattle.mp_simulation.specs.units.NetlistSimulations.{IsSimulated}
use Rattle.mp_partition.specs.runs.Marks.{is_marked}
use Rattle.mp_partition.specs.regions.Regions.{partition_of, region, HasStimuli}
use Rattle.mp_partition.specs.regions.Divisions.{heard_by}
use Rattle.mp_partition.proofs.lemmas.regions.DivisionLemmas.{divided_apart}
use Rattle.mp_partition.proofs.lemmas.regions.RegionLemmas.{has_stimuli}
use Rattle.mp_partition.specs.merging.PartRuns.{IsPartRun}
use Rattle.mp_engine.specs.region_runs.StateHistories.{IsHistory}
use Rattle.mp_engine.specs.region_runs.RegionRuns.{IsUnderWay}
use Rattle.mp_engine.proofs.lemmas.region_runs.StateHistoryLemmas.{has_history}
use Rattle.mp_engine.proofs.part_of.PartOf.run.Goals as goal

pub new-region-requires : goal.new-region-requires
new-region-requires g c m p w drives home =
    let division = c.args.self.division.now in
    let part = c.args.self.part in
    ap (λ (marks : List Bool). is_marked marks w) (c.heard_by-heard.ensures ∙ ap (λ (hs : List (List Bool)). heard_by hs part) c.as_slice.ensures.value)
    ∙ divided_apart c.args.self.netlist.now division.homes.items division.wires.items division.heard.items division.parts part c.requires.channels.0.division m p w drives
    (ap (λ (hs : List ℕ). partition_of hs m) (sym c.as_slice-2.ensures.value) ∙ home)

pub run_windows-requires-clause-begun : goal.run_windows-requires-clause-begun
run_windows-requires-clause-begun g c =
    let n = c.args.self.netlist.now in
    let part = c.args.self.part in
    let homes = c.args.self.division.now.homes.items in
    let heard = heard_by c.args.self.division.now.heard.items part in
    let here : c.new-region.result ≡ region n homes part heard =
    c.new-region.ensures ∙ ap (λ (hs : List ℕ). region n hs part c.heard_by-heard.result.now) c.as_slice-2.ensures.value
    ∙ ap (λ (marks : List Bool). region n homes part marks) (c.heard_by-heard.ensures ∙ ap (λ (hs : List (List Bool)). heard_by hs part) c.as_slice.ensures.value)
    in
    let begun = c.in_ok-run.ensures heard 1 (subst (λ (r : Circuit). HasStimuli n r heard) (sym here) (has_stimuli n homes part heard)) (λ w marked. (c.requires.channels.0.division.heard part w marked).unset) (λ w marked. omega arith) in
    subst (λ (r : Circuit). IsUnderWay r c.args.self.keeps (is_marked heard) 0 1 c.in_ok-run.run') here begun

pub finish-requires-clause-simulated : goal.finish-requires-clause-simulated
finish-requires-clause-simulated g c =
    let n = c.args.self.netlist.now in
    let part = c.args.self.part in
    let homes = c.args.self.division.now.homes.items in
    let heard = heard_by c.args.self.division.now.heard.items part in
    let here : c.new-region.result ≡ region n homes part heard =
    c.new-region.ensures ∙ ap (λ (hs : List ℕ). region n hs part c.heard_by-heard.result.now) c.as_slice-2.ensures.value
    ∙ ap (λ (marks : List Bool). region n homes part marks) (c.heard_by-heard.ensures ∙ ap (λ (hs : List (List Bool)). heard_by hs part) c.as_slice.ensures.value)
    in
    subst (λ (r : Circuit). IsSimulated r (r.horizon - 1) c.run_windows.new.run.simulation) (sym here) c.in-Ok.ensures.simulated

pub finish-requires-clause-kept : goal.finish-requires-clause-kept
finish-requires-clause-kept g c =
    let n = c.args.self.netlist.now in
    let part = c.args.self.part in
    let homes = c.args.self.division.now.homes.items in
    let heard = heard_by c.args.self.division.now.heard.items part in
    let here : c.new-region.result ≡ region n homes part heard =
    c.new-region.ensures ∙ ap (λ (hs : List ℕ). region n hs part c.heard_by-heard.result.now) c.as_slice-2.ensures.value
    ∙ ap (λ (marks : List Bool). region n homes part marks) (c.heard_by-heard.ensures ∙ ap (λ (hs : List (List Bool)). heard_by hs part) c.as_slice.ensures.value)
    in
    let r = c.new-region.result in
    has_history r c.args.self.keeps (r.horizon - 1 + 1) (r.horizon - 1) _ (subst (λ (m : Circuit). IsHistory m c.args.self.keeps (m.horizon - 1 + 1) (m.horizon - 1) c.run_windows.new.run.history) (sym here) c.in-Ok.ensures.kept)

pub returns-in-Ok : goal.returns-in-Ok
returns-in-Ok g c =
    let n = c.args.self.netlist.now in
    let part = c.args.self.part in
    let homes = c.args.self.division.now.homes.items in
    let heard = heard_by c.args.self.division.now.heard.items part in
    let here : c.new-region.result ≡ region n homes part heard =
    c.new-region.ensures ∙ ap (λ (hs : List ℕ). region n hs part c.heard_by-heard.result.now) c.as_slice-2.ensures.value
    ∙ ap (λ (marks : List Bool). region n homes part marks) (c.heard_by-heard.ensures ∙ ap (λ (hs : List (List Bool)). heard_by hs part) c.as_slice.ensures.value)
    in
    let r = c.new-region.result in
    let is = subst (λ (m : Circuit). IsHistory m c.args.self.keeps (m.horizon - 1 + 1) (m.horizon - 1) c.run_windows.new.run.history) (sym here) c.in-Ok.ensures.kept in
    subst (λ (m : Circuit). IsPartRun m c.args.self.keeps c.in_ok-finish-in-Ok.field-0) here (c.in_ok-finish-in-Ok.ensures c.args.self.keeps is)
