use Rattle.std.proofs.Common.{Bool, List, subst}
use Rattle.mp_redo.specs.rerun.Starting.{IsFirstRun}
use Rattle.mp_redo.proofs.rerun.rerun.Rerun.begin.Goals as goal

pub begin_with-requires-clause-first : goal.begin_with-requires-clause-first
begin_with-requires-clause-first c =
    let change = c.args.change.now in
    subst (λ (ms : List Bool). IsFirstRun change.old.now change.new.now change.run.now ms c.in_ok-first.first) c.as_slice.ensures.value c.in_ok-first.ensures
