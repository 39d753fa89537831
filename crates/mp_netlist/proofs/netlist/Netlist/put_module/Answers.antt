use Rattle.std.proofs.Common.{arith}
use Rattle.mp_netlist.specs.Records.{circuit_of}
use Rattle.mp_netlist.proofs.LimitLemmas.{modules_within}
use Rattle.mp_netlist.proofs.netlist.Netlist.put_module.Goals as goal

pub push-requires-clause-room : goal.push-requires-clause-room
push-requires-clause-room c = omega (arith, modules_within (circuit_of c.self.inside) c.self.invariant.circuit)
