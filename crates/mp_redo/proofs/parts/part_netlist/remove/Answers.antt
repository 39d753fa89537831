use Rattle.std.proofs.Common.{◌≡◌, Ok, sym, subst}
use Rattle.mp_records.specs.declared.edit.Edit.TheVariants.{Single}
use Rattle.mp_records.specs.declared.single_edit.SingleEdit.TheVariants.{RemoveModule}
use Rattle.mp_netlist.specs.Edits.{after}
use Rattle.mp_redo.proofs.lemmas.parts.RemovalLemmas.{removed}
use Rattle.mp_redo.proofs.parts.part_netlist.remove.Goals as goal

pub returns-in-Ok : goal.returns-in-Ok
returns-in-Ok c =
    let n = c.args.netlist.now in
    let next = c.apply-removed.new.self in
    removed n next c.args.id.0 c.in-Some.found.now c.horizon-horizon.ensures.form (sym c.in-Some.ensures.value)
    (subst (λ x. after n (Single (RemoveModule x)) ≡ Ok next) c.in_ok-module.ensures.cases c.in-Ok.ensures.ok)
