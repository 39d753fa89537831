use Rattle.mp_commands.proofs.lemmas.command_runs.Names.{◌≡◌, is_some, true, false, Ok, ap, ◌∙◌, rules, err_from_is_err_and, Fresh, after_lines, lines_of, counted_netlist}
use Rattle.mp_commands.proofs.lemmas.command_runs.RunLemmas.{refused_text}
use Rattle.mp_commands.proofs.command_runs.opening.opened.Goals as goal

pub returns-in_err-netlist-clause-refused : goal.returns-in_err-netlist-clause-refused
returns-in_err-netlist-clause-refused g c =
    let read = c.in_err-netlist.ensures.read in
    let p = err_from_is_err_and c.from_residual.result c.from_residual.ensures.1 in
    rw (p.1, p.2) (refused_text (after_lines 0 Fresh (lines_of c.args.text.now)) (is_some c.args.crew) c.in_err-netlist.field-0.0 read)

pub returns-in-Some-clause-netlist : goal.returns-in-Some-clause-netlist
returns-in-Some-clause-netlist g c =
    let read = c.in_ok-netlist.ensures.read in
    let some : is_some c.args.crew ≡ true = search rules in
    ap (λ r. counted_netlist r (is_some c.args.crew)) read ∙ ap (λ valid. counted_netlist (Ok c.in_ok-netlist.netlist) valid) some

pub returns-in-None-clause-refused : goal.returns-in-None-clause-refused
returns-in-None-clause-refused g c =
    let read = c.in_ok-netlist.ensures.read in
    let none : is_some c.args.crew ≡ false = search rules in
    ap (λ r. counted_netlist r (is_some c.args.crew)) read ∙ ap (λ valid. counted_netlist (Ok c.in_ok-netlist.netlist) valid) none
