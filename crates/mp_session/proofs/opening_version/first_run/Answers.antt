use Rattle.std.proofs.Common.{sym, subst}
use Rattle.std.proofs.lemmas.Result.{IfOk-weaker}
use Rattle.mp_partition.specs.runs.Runs.{IsRun}
use Rattle.mp_session.proofs.opening_version.first_run.Goals as goal

pub returns : goal.returns
returns g c = IfOk-weaker c.share-shared.result _ _ (λ run same. subst (IsRun c.args.netlist.now) (sym same) c.in_ok-run.ensures) c.share-shared.ensures
