use Rattle.mp_netlist.proofs.LeastLemmas.{least_met}
use Rattle.mp_netlist.proofs.module_table.least_near.Goals as goal

pub returns-in-Some : goal.returns-in-Some
returns-in-Some c = least_met c.args.table.now c.in-Some.module c.args.bound c.in-Some.ensures c.requires
