use Rattle.std.proofs.Common.{arith}
use Rattle.mp_netlist.specs.Records.{circuit_of}
use Rattle.mp_netlist.proofs.UseLemmas.{next_is_unnamed}
use Rattle.mp_netlist.proofs.LimitLemmas.{wires_within}
use Rattle.mp_netlist.proofs.netlist.Netlist.put_wire.Goals as goal

pub overflow_cast-number : goal.overflow_cast-number
overflow_cast-number c = omega (arith, c.len-number.ensures, wires_within (circuit_of c.self.inside) c.self.invariant.circuit)

pub add_wire-requires : goal.add_wire-requires
add_wire-requires c = next_is_unnamed (circuit_of c.self.inside) c.self.invariant.circuit c.len-number.result c.len-number.ensures.value

pub push-requires-clause-room : goal.push-requires-clause-room
push-requires-clause-room c = omega (arith, wires_within (circuit_of c.self.inside) c.self.invariant.circuit)
