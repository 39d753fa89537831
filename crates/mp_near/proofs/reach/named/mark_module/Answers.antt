use Rattle.std.proofs.Common.{length, ap, sym, ◌∙◌}
use Rattle.mp_netlist.specs.Circuit.{module_named}
use Rattle.mp_netlist.proofs.NameLemmas.{module_name}
use Rattle.mp_near.specs.reach.Named.{module_changed_by}
use Rattle.mp_near.proofs.lemmas.reach.NameMarkLemmas.{mark_found, mark_nothing}
use Rattle.mp_near.proofs.reach.named.mark_module.Goals as goal

pub returns-in-Some-module_named-clause-named : goal.returns-in-Some-module_named-clause-named
returns-in-Some-module_named-clause-named c =
    let old = c.args.old.now in
    mark_found module_name old.modules c.horizon-horizon.ensures.form.names.one_module (module_changed_by c.args.edit.now) c.in-Some.name.now c.in-Some-module_named.id.0 (sym c.in-Some.ensures)
    (ap (λ n. module_named old n) (sym c.as_str.ensures) ∙ sym c.in-Some-module_named.ensures) (length c.args.marks.now.items) c.mark.new.marks.items c.mark.ensures.marked

pub returns-in_default-module_named-clause-named : goal.returns-in_default-module_named-clause-named
returns-in_default-module_named-clause-named c = λ i r at names low.
    let old = c.args.old.now in
    absurd (mark_nothing module_name old.modules (module_changed_by c.args.edit.now) c.in-Some.name.now (sym c.in-Some.ensures)
    (ap (λ n. module_named old n) (sym c.as_str.ensures) ∙ sym c.in_default-module_named.ensures) i r at names)

pub returns-in_default-clause-named : goal.returns-in_default-clause-named
returns-in_default-clause-named c = λ i r at names low. let none = c.in_default.ensures in absurd (let no : ⊥ = cc in no)
