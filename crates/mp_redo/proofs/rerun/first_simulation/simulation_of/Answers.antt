use Rattle.std.proofs.Common.{map, ap, sym, subst, ◌∙◌}
use Rattle.mp_netlist.specs.Circuit.{Circuit, IsCircuit}
use Rattle.mp_simulation.specs.run.Settling.{ports_of}
use Rattle.mp_simulation.specs.run.Beginnings.{IsPartOf, IsLayout, IsBegun}
use Rattle.mp_redo.proofs.lemmas.rerun.StartingLemmas.{seen_ok, part_of, is_first}
use Rattle.mp_redo.proofs.rerun.first_simulation.simulation_of.Goals as goal

pub of-requires : goal.of-requires
of-requires c = subst IsCircuit (sym c.whole-whole.ensures) c.requires.form

pub all_outputs-requires : goal.all_outputs-requires
all_outputs-requires c = subst IsCircuit (sym c.whole-whole.ensures) c.requires.form

pub begin-requires-clause-form : goal.begin-requires-clause-form
begin-requires-clause-form c =
    let active = c.requires.part.0 in
    subst IsCircuit (sym c.requires.part.1) (seen_ok c.args.new.now c.requires.form active)

pub begin-requires-clause-can : goal.begin-requires-clause-can
begin-requires-clause-can c =
    let n = c.args.new.now in
    let active = c.requires.part.0 in
    record {
      all = n;
      form = c.requires.form;
      part = subst (λ (r : Circuit). IsPartOf r n) (sym c.requires.part.1) (part_of n c.requires.form active);
      laid = subst (λ (r : Circuit). IsLayout r c.in_ok-layout.layout) c.whole-whole.ensures c.in_ok-layout.ensures;
      driven = c.in_ok-outputs.ensures ∙ ap (λ (r : Circuit). map ports_of r.modules) c.whole-whole.ensures;
    }

pub returns : goal.returns
returns c = λ active part.
    let n = c.args.new.now in
    let ok = c.requires.form in
    let layout = c.in_ok-layout.layout in
    let s = c.in_ok-simulation.simulation in
    let begun =
    c.in_ok-simulation.ensures.begun n ok (subst (λ (r : Circuit). IsPartOf r n) (sym part) (part_of n ok active))
    (subst (λ (r : Circuit). IsLayout r layout) c.whole-whole.ensures c.in_ok-layout.ensures)
    (c.in_ok-outputs.ensures ∙ ap (λ (r : Circuit). map ports_of r.modules) c.whole-whole.ensures) in
    is_first n ok active layout s (subst (λ (r : Circuit). IsBegun r n layout s) part begun)
