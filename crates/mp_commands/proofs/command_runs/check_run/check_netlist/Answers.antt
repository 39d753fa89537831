use Rattle.mp_commands.proofs.lemmas.command_runs.Names.{refl, err_from_is_err_and}
use Rattle.mp_commands.proofs.command_runs.check_run.check_netlist.Goals as goal

pub returns-in_err-waves-clause-stopped : goal.returns-in_err-waves-clause-stopped
returns-in_err-waves-clause-stopped g c =
    let p = err_from_is_err_and c.from_residual.result c.from_residual.ensures.1 in
    rw (p.1, p.2) refl
