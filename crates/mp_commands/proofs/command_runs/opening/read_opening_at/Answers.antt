use Rattle.mp_commands.proofs.lemmas.command_runs.Names.{is_some, sym, ap, ◌∙◌, err_from_is_err_and, with_each, with_places}
use Rattle.mp_commands.proofs.lemmas.command_runs.InputLemmas.{shut_at}
use Rattle.mp_commands.proofs.command_runs.opening.read_opening_at.Goals as goal

pub returns-in_err-netlist-clause-refused : goal.returns-in_err-netlist-clause-refused
returns-in_err-netlist-clause-refused g c =
    let p = err_from_is_err_and c.from_residual.result c.from_residual.ensures.1 in
    rw (p.1, p.2) (shut_at c.args.names.now (g.S.Source.left c.args.source.now) (is_some c.args.crew) c.in_err-netlist.field-0.0 c.in_err-netlist.ensures.refused)

pub returns-in-None-clause-opened : goal.returns-in-None-clause-opened
returns-in-None-clause-opened g c =
    let opens = c.in_ok-netlist.ensures.opened in
    let whole = ap (λ missing. with_each missing c.in_ok-netlist.netlist) (sym c.missing_place.ensures ∙ c.in-None.is) in
    (opens.0, opens.1, ap (with_places c.args.names.now) opens.2 ∙ whole)

pub returns-in-Some-clause-refused : goal.returns-in-Some-clause-refused
returns-in-Some-clause-refused g c =
    let opens = c.in_ok-netlist.ensures.opened in
    let missing = ap (λ missing. with_each missing c.in_ok-netlist.netlist) (sym c.missing_place.ensures ∙ c.in-Some.is) in
    (opens.0, opens.1, ap (with_places c.args.names.now) opens.2 ∙ missing)
