use Rattle.mp_netlist.specs.Records.{circuit_of}
use Rattle.mp_netlist.proofs.LimitLemmas.{horizon_within}
use Rattle.mp_netlist.proofs.netlist.Netlist.horizon.Goals as goal

pub returns-clause-high : goal.returns-clause-high
returns-clause-high c = horizon_within (circuit_of c.self.inside) c.self.invariant.circuit
