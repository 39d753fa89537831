use Rattle.mp_commands.proofs.lemmas.command_runs.Names.{err_from_is_err_and, is_some}
use Rattle.mp_commands.proofs.lemmas.command_runs.InputLemmas.{shut_unread}
use Rattle.mp_commands.proofs.command_runs.opening.read_opening.Goals as goal

pub returns-in_err-input-clause-refused : goal.returns-in_err-input-clause-refused
returns-in_err-input-clause-refused g c =
    let p = err_from_is_err_and c.from_residual.result c.from_residual.ensures.1 in
    rw (p.1, p.2) (shut_unread (g.S.Source.left c.args.source.now) (is_some c.args.crew) c.in_err-input.field-0.0 c.in_err-input.ensures.refused)
