use Rattle.std.proofs.Common.{is_some, ap, sym, ◌∙◌}
use Rattle.mp_netlist.specs.Circuit.{Circuit, wire_at}
use Rattle.mp_partition.proofs.lemmas.regions.RegionLemmas.{stands_there}
use Rattle.mp_partition.proofs.regions.region.Region.has_wire.Goals as goal

pub returns-in-Some : goal.returns-in-Some
returns-in-Some c =
    let inside = c.self.inside in
    ap is_some c.in-Some.ensures.value ∙ sym (stands_there inside.netlist.now inside.homes.now inside.part inside.heard.now c.args.id.0) ∙ ap (λ (n : Circuit). is_some (wire_at n c.args.id.0)) c.self.view_is

pub returns-in-None : goal.returns-in-None
returns-in-None c =
    let inside = c.self.inside in
    ap is_some c.in-None.ensures.value ∙ sym (stands_there inside.netlist.now inside.homes.now inside.part inside.heard.now c.args.id.0) ∙ ap (λ (n : Circuit). is_some (wire_at n c.args.id.0)) c.self.view_is
