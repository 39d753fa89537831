use Rattle.mp_commands.proofs.lemmas.command_runs.RunLemmas.{refused}
use Rattle.mp_commands.proofs.lemmas.command_runs.ViewLemmas.{viewed_refused, viewed_ran}
use Rattle.mp_commands.proofs.command_runs.viewed.ViewedInputCommand.answer.Goals as goal

pub returns-in_err-netlist : goal.returns-in_err-netlist
returns-in_err-netlist g c =
    let refuses = viewed_refused c.args.self.now.view _ c.in_err-netlist.field-0.0 (rw c.crewed-viewed.ensures.both at c.in_err-netlist.ensures.refused) in
    refused _ _ _ _ c.from_residual.result c.in_err-netlist.field-0.0 c.from_residual.ensures.1 refuses

pub returns : goal.returns
returns g c =
    let read = rw c.crewed-viewed.ensures.both at c.in_ok-netlist.ensures.netlist in
    let is_view = rw c.in_ok-netlist.ensures.crew at c.crewed-viewed.ensures.view in
    viewed_ran c.args.self.now.view _ c.in_ok-netlist.view.now c.in_ok-netlist.netlist c.answer_of-answered.result c.args.out.now c.answer_of-answered.new.out is_view read
    c.answer_of-answered.ensures
