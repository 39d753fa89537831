use Rattle.std.proofs.Common.{ap, sym, ◌∙◌}
use Rattle.mp_netlist.specs.Circuit.{Circuit, wire_at}
use Rattle.mp_partition.specs.regions.Regions.{width_in}
use Rattle.mp_partition.proofs.lemmas.regions.RegionLemmas.{widths_there}
use Rattle.mp_partition.proofs.regions.region.Region.wire_width.Goals as goal

pub returns-in-Some : goal.returns-in-Some
returns-in-Some c =
    let inside = c.self.inside in
    ap width_in c.in-Some.ensures.value ∙ sym (widths_there inside.netlist.now inside.homes.now inside.part inside.heard.now c.args.id.0) ∙ ap (λ (n : Circuit). width_in (wire_at n c.args.id.0)) c.self.view_is

pub returns-in-None : goal.returns-in-None
returns-in-None c =
    let inside = c.self.inside in
    ap width_in c.in-None.ensures.value ∙ sym (widths_there inside.netlist.now inside.homes.now inside.part inside.heard.now c.args.id.0) ∙ ap (λ (n : Circuit). width_in (wire_at n c.args.id.0)) c.self.view_is
