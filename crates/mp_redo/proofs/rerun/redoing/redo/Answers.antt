use Rattle.std.proofs.Common.{sym, subst}
use Rattle.mp_netlist.specs.Circuit.{Circuit}
use Rattle.mp_phase.specs.Allowed.{IsAllowed}
use Rattle.mp_depend.specs.work.Work.{IsEntry}
use Rattle.mp_redo.proofs.rerun.redoing.redo.Goals as goal

pub run_again-requires-clause-allowed : goal.run_again-requires-clause-allowed
run_again-requires-clause-allowed g c κs within =
    let may = g.G.Gate.may c.args.context.now.gate.now in
    let between = c.change_between-change in
    subst (λ (n : Circuit). IsAllowed (IsEntry n between.result.new.now) may) (sym between.ensures.old)
    (subst (λ (n : Circuit). IsAllowed (IsEntry c.args.old.now n) may) (sym between.ensures.new) c.requires.allowed)
