use Rattle.mp_commands.proofs.lemmas.command_runs.Names.{refl, err_from_is_err_and}
use Rattle.mp_commands.proofs.lemmas.command_runs.CheckLemmas.{unput}
use Rattle.mp_commands.proofs.command_runs.check_run.check_waves.Goals as goal

pub returns-in_err-found-clause-stopped : goal.returns-in_err-found-clause-stopped
returns-in_err-found-clause-stopped g c =
    let p = err_from_is_err_and c.from_residual.result c.from_residual.ensures.1 in
    rw (p.1, p.2) refl

pub returns-in_err-put-clause-stopped : goal.returns-in_err-put-clause-stopped
returns-in_err-put-clause-stopped g c =
    let r = c.from_residual-in_err-put in
    let p = err_from_is_err_and r.result r.ensures.1 in
    rw (p.1, p.2) (unput c.args.asked c.args.of.now.netlist.now _ _ c.in_err-put.field-0.0 c.in_err-put.ensures.written c.in_err-put.ensures.wanting)

pub returns-clause-checked : goal.returns-clause-checked
returns-clause-checked g c = (c.is_wrong-is_wrong.ensures c.in_ok-found.ensures, c.in_ok-put.ensures.written)
