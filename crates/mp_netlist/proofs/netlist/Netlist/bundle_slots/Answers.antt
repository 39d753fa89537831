use Rattle.std.proofs.Common.{arith}
use Rattle.mp_netlist.specs.Records.{circuit_of}
use Rattle.mp_netlist.proofs.LimitLemmas.{bundles_within}
use Rattle.mp_netlist.proofs.netlist.Netlist.bundle_slots.Goals as goal

pub overflow_cast-result : goal.overflow_cast-result
overflow_cast-result c = omega (arith, c.len.ensures, bundles_within (circuit_of c.self.inside) c.self.invariant.circuit)

pub returns-clause-few : goal.returns-clause-few
returns-clause-few c = omega (arith, c.len.ensures, bundles_within (circuit_of c.self.inside) c.self.invariant.circuit)
