use Rattle.std.proofs.Common.{length, ap, sym, ◌∙◌}
use Rattle.mp_netlist.specs.Circuit.{Circuit}
use Rattle.mp_partition.proofs.lemmas.regions.RegionLemmas.{length_heard}
use Rattle.mp_partition.proofs.regions.region.Region.wire_slots.Goals as goal

pub returns-clause-value : goal.returns-clause-value
returns-clause-value c =
    let inside = c.self.inside in
    c.wire_slots.ensures.value ∙ sym (length_heard inside.netlist.now inside.heard.now 0 inside.netlist.now.wires) ∙ ap (λ (n : Circuit). length n.wires) c.self.view_is
