use Rattle.std.proofs.Common.{subst}
use Rattle.mp_netlist.specs.Circuit.{IsCircuit}
use Rattle.mp_partition.proofs.lemmas.regions.RegionLemmas.{region_is}
use Rattle.mp_partition.proofs.regions.region.Region.horizon.Goals as goal

pub returns-clause-form : goal.returns-clause-form
returns-clause-form c =
    let inside = c.self.inside in
    subst IsCircuit c.self.view_is (region_is inside.netlist.now inside.homes.now inside.part inside.heard.now c.horizon.ensures.form inside.apart)
