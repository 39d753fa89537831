use Rattle.std.proofs.Common.{ap, sym, ◌∙◌}
use Rattle.mp_netlist.specs.Circuit.{Circuit, wire_at}
use Rattle.mp_model.specs.Levels.{initial_of}
use Rattle.mp_partition.proofs.lemmas.regions.RegionLemmas.{initial_there}
use Rattle.mp_partition.proofs.regions.region.Region.initial_level.Goals as goal

pub returns-in-Some : goal.returns-in-Some
returns-in-Some c =
    let inside = c.self.inside in
    ap initial_of c.in-Some.ensures.value ∙ sym (initial_there inside.netlist.now inside.homes.now inside.part inside.heard.now c.args.id.0) ∙ ap (λ (n : Circuit). initial_of (wire_at n c.args.id.0)) c.self.view_is

pub returns-in-None : goal.returns-in-None
returns-in-None c =
    let inside = c.self.inside in
    ap initial_of c.in-None.ensures.value ∙ sym (initial_there inside.netlist.now inside.homes.now inside.part inside.heard.now c.args.id.0) ∙ ap (λ (n : Circuit). initial_of (wire_at n c.args.id.0)) c.self.view_is
