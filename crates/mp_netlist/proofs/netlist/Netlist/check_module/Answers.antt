use Rattle.std.proofs.Common.{◌≡◌, true, sym, ◌∙◌, rules}
use Rattle.mp_netlist.proofs.NewPortLemmas.{checked_inputs, checked_outputs}
use Rattle.mp_netlist.proofs.netlist.Netlist.check_module.Goals as goal

pub returns-clause-inputs : goal.returns-clause-inputs
returns-clause-inputs c =
    let fit : c.delays_fit.result ≡ true = search rules in
    checked_inputs c.args.self.now c.args.new.now c.in-Some.ports c.in-Some.ensures.ports (sym c.delays_fit.ensures ∙ fit)

pub returns-clause-outputs : goal.returns-clause-outputs
returns-clause-outputs c =
    let fit : c.delays_fit.result ≡ true = search rules in
    checked_outputs c.args.self.now c.args.new.now c.in-Some.ports c.in-Some.ensures.ports (sym c.delays_fit.ensures ∙ fit)
