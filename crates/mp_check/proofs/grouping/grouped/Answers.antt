use Rattle.std.proofs.Common.{◌≡◌, List, IfOk, ap, subst, ◌∙◌}
use Rattle.std.specs.Map.{values_of}
use Rattle.mp_check.specs.declared.group.Group.{Group}
use Rattle.mp_check.proofs.GroupLemmas.{groups_are}
use Rattle.mp_check.proofs.grouping.grouped.Goals as goal

pub returns : goal.returns
returns c =
    subst (λ (list : List Group). IfOk c.values_of.result (λ found. found.items ≡ list)) (ap values_of c.in_ok-keyed.ensures ∙ groups_are c.args.problems.now) c.values_of.ensures
