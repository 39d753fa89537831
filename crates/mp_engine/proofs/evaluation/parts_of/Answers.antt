use Rattle.std.proofs.Common.{[], sym, subst}
use Rattle.mp_netlist.specs.Circuit.{Circuit}
use Rattle.mp_partition.specs.regions.Regions.{HasStimuli}
use Rattle.mp_partition.proofs.lemmas.regions.RegionLemmas.{has_stimuli}
use Rattle.mp_engine.proofs.evaluation.parts_of.Goals as goal

pub invariant_of-push : goal.invariant_of-push
invariant_of-push c = record {
  stimuli = subst (λ (r : Circuit). HasStimuli c.args.divided.netlist.now r []) (sym c.new-region.ensures) (has_stimuli c.args.divided.netlist.now c.as_slice-homes.result.now c.loop-part.part []);
}
