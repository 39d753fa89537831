use Rattle.std.proofs.Common.{◌≡◌, [], true, ap, sym, subst, ◌∙◌, arith}
use Rattle.mp_netlist.specs.Circuit.{Circuit}
use Rattle.mp_partition.specs.runs.Marks.{is_marked}
use Rattle.mp_partition.specs.regions.Regions.{HasStimuli}
use Rattle.mp_partition.proofs.lemmas.regions.RegionLemmas.{has_stimuli, whole_is}
use Rattle.mp_partition.specs.merging.PartRuns.{IsPartRun}
use Rattle.mp_engine.proofs.lemmas.region_runs.RegionRunLemmas.{none_marked}
use Rattle.mp_engine.specs.ActivityProbes.{IsLookedAt}
use Rattle.mp_engine.proofs.quiet.run_quiet.Goals as goal

pub look_at-requires-clause-before : goal.look_at-requires-clause-before
look_at-requires-clause-before g c =
    let n = c.args.netlist.now in
    let r = c.whole-region.result in
    let stimuli : HasStimuli n r [] = subst (λ (r : Circuit). HasStimuli n r []) (whole_is n ∙ sym c.whole-region.ensures) (has_stimuli n [] 0 []) in
    let same : c.horizon-horizon.result ≡ r.horizon = c.horizon-horizon.ensures.value ∙ sym (ap (λ (n : Circuit). n.horizon) c.whole-region.ensures) in
    let first : 1 ≡ c.new-looks.result.to = sym c.new-looks.ensures in
    subst (λ k. IsLookedAt r k c.in_ok-run.run') first (record {
      some = omega arith;
      within = omega (arith, same);
      over = c.in_ok-run.ensures [] r.horizon stimuli (λ w is. absurd (none_marked w is)) (λ w is. absurd (none_marked w is));
    })

pub run_to_end-requires-clause-later : goal.run_to_end-requires-clause-later
run_to_end-requires-clause-later g c = c.in-Ok.ensures.some

pub run_to_end-requires-clause-within : goal.run_to_end-requires-clause-within
run_to_end-requires-clause-within g c = c.in-Ok.ensures.within

pub run_to_end-requires-clause-before : goal.run_to_end-requires-clause-before
run_to_end-requires-clause-before g c = record { keeps = true; is_heard = is_marked []; is = c.in-Ok.ensures.over }

pub returns : goal.returns
returns g c =
    let n = c.args.netlist.now in
    let found = c.in_ok-run-2.run' in
    c.run_of.ensures n c.horizon-horizon.ensures.value (subst (λ (m : Circuit). IsPartRun m true found) c.whole-region.ensures (c.in_ok-run-2.ensures true c.in-Ok.ensures.over))
