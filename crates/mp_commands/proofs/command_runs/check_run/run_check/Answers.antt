use Rattle.std.proofs.Common.{◌∙◌}
use Rattle.mp_commands.proofs.lemmas.command_runs.Names.{err_from_is_err_and}
use Rattle.mp_commands.proofs.lemmas.command_runs.CheckLemmas.{checked_input, shut_input, stopped_input, unflushed_input, unread}
use Rattle.mp_commands.proofs.command_runs.check_run.run_check.Goals as goal

pub returns-in_err-netlist-clause-stopped : goal.returns-in_err-netlist-clause-stopped
returns-in_err-netlist-clause-stopped g c =
    let p = err_from_is_err_and c.from_residual.result c.from_residual.ensures.1 in
    let shut = rw c.crew.ensures at c.in_err-netlist.ensures.refused in
    rw (p.1, p.2) (shut_input c.args.asked _ _ c.args.out.now _ shut)

pub returns-in_err-is_wrong-clause-stopped : goal.returns-in_err-is_wrong-clause-stopped
returns-in_err-is_wrong-clause-stopped g c =
    let r = c.from_residual-in_err-is_wrong in
    let p = err_from_is_err_and r.result r.ensures.1 in
    let opens = rw c.crew.ensures at c.in_ok-netlist.ensures.opened in
    rw (p.1, p.2) (stopped_input c.args.asked _ _ c.in_ok-netlist.netlist opens _ _ _ c.in_err-is_wrong.ensures.stopped)

pub returns-in_err-is_wrong-clause-read_faults : goal.returns-in_err-is_wrong-clause-read_faults
returns-in_err-is_wrong-clause-read_faults g c =
    let r = c.from_residual-in_err-is_wrong in
    let p = err_from_is_err_and r.result r.ensures.1 in
    rw (p.1, p.2) (c.in_ok-netlist.ensures.read_faults ∙ unread c.args.asked c.in_ok-netlist.netlist _ _ _ c.in_err-is_wrong.ensures.stopped _)

pub returns-in_err-flush-clause-stopped : goal.returns-in_err-flush-clause-stopped
returns-in_err-flush-clause-stopped g c =
    let r = c.from_residual-in_err-flush in
    let p = err_from_is_err_and r.result r.ensures.1 in
    let opens = rw c.crew.ensures at c.in_ok-netlist.ensures.opened in
    rw (p.1, p.2) (unflushed_input c.args.asked _ _ c.in_ok-netlist.netlist opens _ _ _ _ c.in_ok-is_wrong.ensures.checked c.in_err-flush.ensures.written)

pub returns-clause-checked : goal.returns-clause-checked
returns-clause-checked g c =
    let opens = rw c.crew.ensures at c.in_ok-netlist.ensures.opened in
    checked_input c.args.asked _ _ c.in_ok-netlist.netlist opens _ _ _ _ c.in_ok-is_wrong.ensures.checked c.in_ok-flush.ensures.written c.in_ok-flush.ensures.empty
