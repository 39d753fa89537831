use Rattle.mp_commands.proofs.lemmas.command_runs.Names.{refl, err_from_is_err_and, rules}
use Rattle.mp_commands.proofs.lemmas.command_runs.InputLemmas.{short_input, long_input, unread_as}
use Rattle.mp_commands.proofs.command_runs.input.read_input.Goals as goal

pub returns-in_err-input-clause-refused : goal.returns-in_err-input-clause-refused
returns-in_err-input-clause-refused g c =
    let p = err_from_is_err_and c.from_residual.result c.from_residual.ensures.1 in
    rw (p.1, p.2) (unread_as (g.S.Source.left c.args.source.now) c.in_err-input.field-0.0)

pub returns-then-len-limit-clause-refused : goal.returns-then-len-limit-clause-refused
returns-then-len-limit-clause-refused g c = (refl, long_input (g.S.Source.left c.args.source.now) c.in_ok-input.input.items c.in_ok-input.ensures.front (search rules) c.in_ok-input.ensures.within)

pub returns-clause-input : goal.returns-clause-input
returns-clause-input g c = short_input (g.S.Source.left c.args.source.now) c.in_ok-input.input.items c.in_ok-input.ensures.front (search rules)
