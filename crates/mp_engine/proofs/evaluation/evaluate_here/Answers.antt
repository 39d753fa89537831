use Rattle.std.proofs.Common.{[], sym, subst}
use Rattle.mp_netlist.specs.Circuit.{Circuit}
use Rattle.mp_partition.specs.regions.Regions.{HasStimuli}
use Rattle.mp_partition.proofs.lemmas.regions.RegionLemmas.{has_stimuli, whole_is}
use Rattle.mp_engine.proofs.evaluation.evaluate_here.Goals as goal

pub run_region-requires-clause-stimuli : goal.run_region-requires-clause-stimuli
run_region-requires-clause-stimuli g c =
    let n = c.args.netlist.now in
    subst (λ (r : Circuit). HasStimuli n r []) (sym c.whole-region.ensures) (subst (λ (r : Circuit). HasStimuli n r []) (whole_is n) (has_stimuli n [] 0 []))
