use Rattle.mp_commands.proofs.Names.{err_from_is_err_and, OutOfMemory}
use Rattle.mp_commands.specs.command_runs.OptionLimits.{has_valid_crew}
use Rattle.mp_commands.proofs.lemmas.command_runs.InputLemmas.{shut_unread}
use Rattle.mp_commands.proofs.script_opening.open_keeper.Goals as goal

pub returns-in_err-of_netlist-clause-refused : goal.returns-in_err-of_netlist-clause-refused
returns-in_err-of_netlist-clause-refused g c =
    let p = err_from_is_err_and c.from_residual-in_err-of_netlist.result c.from_residual-in_err-of_netlist.ensures.1 in
    rw (p.1, p.2) (shut_unread (g.S.Source.left c.args.source.now) (has_valid_crew c.args.options.now) OutOfMemory tt)

pub returns-clause-opened : goal.returns-clause-opened
returns-clause-opened g c =
    let is = rw c.crew.ensures at c.in_ok-netlist.ensures.opened in
    (is.0, is.1, (c.in_ok-netlist.netlist, is.2, c.in_ok-of_netlist.ensures))
