use Rattle.mp_partition.proofs.lemmas.regions.RegionLemmas.{whole_is}
use Rattle.mp_partition.proofs.regions.region.Region.whole.Goals as goal

pub returns : goal.returns
returns c = whole_is c.args.netlist.now
