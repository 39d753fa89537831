use Rattle.std.proofs.Common.{ap, sym, ◌∙◌}
use Rattle.mp_netlist.specs.Circuit.{Circuit, module_width}
use Rattle.mp_partition.proofs.lemmas.regions.RegionLemmas.{module_width_there}
use Rattle.mp_partition.proofs.regions.region.Region.module_width.Goals as goal

pub returns : goal.returns
returns c =
    let inside = c.self.inside in
    c.module_width.ensures ∙ sym (module_width_there inside.netlist.now inside.homes.now inside.part inside.heard.now c.args.found.now) ∙ ap (λ (n : Circuit). module_width n c.args.found.now) c.self.view_is
