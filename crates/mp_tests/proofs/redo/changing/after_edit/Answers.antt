use Rattle.std.proofs.Common.{◌≡◌, subst, rules}
use Rattle.mp_netlist.specs.Circuit.{Circuit}
use Rattle.mp_depend.specs.work.Revisions.{IsRevision}
use Rattle.mp_tests.proofs.redo.changing.after_edit.Goals as goal

pub returns : goal.returns
returns c =
    let here : c.in_ok-new.new ≡ c.args.old.now = search rules in
    subst (λ (n : Circuit). IsRevision n c.apply.new.self) here (c.edits_revise.ensures c.in_ok-new.new c.apply.new.self c.args.edit.now c.in_ok-apply.ensures.ok)
