use Rattle.std.proofs.Common.{ap, sym, subst, ◌∙◌}
use Rattle.std.specs.Prelude.{IsTrue}
use Rattle.mp_modules.specs.Kinds.{are_params}
use Rattle.mp_modules.specs.storage.AnyModules.{is_width_of}
use Rattle.mp_netlist.specs.Circuit.{Circuit, module_width}
use Rattle.mp_model.specs.Levels.{built}
use Rattle.mp_partition.proofs.lemmas.regions.RegionLemmas.{module_width_there, built_there}
use Rattle.mp_partition.proofs.regions.region.Region.built.Goals as goal

pub built-requires-clause-width : goal.built-requires-clause-width
built-requires-clause-width c =
    let inside = c.self.inside in
    let found = c.args.found.now in
    subst (λ width. IsTrue (is_width_of found.kind width))
    (sym (ap (λ (n : Circuit). module_width n found) c.self.view_is) ∙ module_width_there inside.netlist.now inside.homes.now inside.part inside.heard.now found) c.requires.width

pub built-requires-clause-params : goal.built-requires-clause-params
built-requires-clause-params c =
    let inside = c.self.inside in
    let found = c.args.found.now in
    subst (λ width. IsTrue (are_params found.kind width found.params))
    (sym (ap (λ (n : Circuit). module_width n found) c.self.view_is) ∙ module_width_there inside.netlist.now inside.homes.now inside.part inside.heard.now found) c.requires.params

pub returns : goal.returns
returns c =
    let inside = c.self.inside in
    c.built.ensures ∙ sym (built_there inside.netlist.now inside.homes.now inside.part inside.heard.now c.args.found.now) ∙ ap (λ (n : Circuit). built n c.args.found.now) c.self.view_is
