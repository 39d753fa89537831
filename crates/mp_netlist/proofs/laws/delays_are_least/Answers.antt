use Rattle.mp_netlist.proofs.DelayLemmas.{delays_are_least}
use Rattle.mp_netlist.proofs.laws.delays_are_least.Goals as goal

pub returns : goal.returns
returns c = delays_are_least
