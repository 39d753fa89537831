use Rattle.std.proofs.Common.{length, ap, sym, ◌∙◌}
use Rattle.mp_netlist.specs.Circuit.{Circuit}
use Rattle.mp_partition.proofs.lemmas.regions.RegionLemmas.{length_at_home}
use Rattle.mp_partition.proofs.regions.region.Region.module_slots.Goals as goal

pub returns-clause-value : goal.returns-clause-value
returns-clause-value c =
    let inside = c.self.inside in
    c.module_slots.ensures.value ∙ sym (length_at_home inside.homes.now inside.part 0 inside.netlist.now.modules) ∙ ap (λ (n : Circuit). length n.modules) c.self.view_is
