use Rattle.std.proofs.Common.{length, ap, sym, ◌∙◌}
use Rattle.mp_netlist.specs.Circuit.{wire_named}
use Rattle.mp_netlist.proofs.NameLemmas.{wire_name}
use Rattle.mp_near.specs.reach.Named.{wire_changed_by}
use Rattle.mp_near.proofs.lemmas.reach.NameMarkLemmas.{mark_found, mark_nothing}
use Rattle.mp_near.proofs.reach.named.mark_wire.Goals as goal

pub returns-in-Some-wire_named-clause-named : goal.returns-in-Some-wire_named-clause-named
returns-in-Some-wire_named-clause-named c =
    let old = c.args.old.now in
    mark_found wire_name old.wires c.horizon-horizon.ensures.form.names.one_wire (wire_changed_by c.args.edit.now) c.in-Some.name.now c.in-Some-wire_named.id.0 (sym c.in-Some.ensures)
    (ap (λ n. wire_named old n) (sym c.as_str.ensures) ∙ sym c.in-Some-wire_named.ensures) (length c.args.marks.now.items) c.mark.new.marks.items c.mark.ensures.marked

pub returns-in_default-wire_named-clause-named : goal.returns-in_default-wire_named-clause-named
returns-in_default-wire_named-clause-named c = λ i r at names low.
    let old = c.args.old.now in
    absurd (mark_nothing wire_name old.wires (wire_changed_by c.args.edit.now) c.in-Some.name.now (sym c.in-Some.ensures)
    (ap (λ n. wire_named old n) (sym c.as_str.ensures) ∙ sym c.in_default-wire_named.ensures) i r at names)

pub returns-in_default-clause-named : goal.returns-in_default-clause-named
returns-in_default-clause-named c = λ i r at names low. let none = c.in_default.ensures in absurd (let no : ⊥ = cc in no)
