use Rattle.std.proofs.Common.{◌≡◌, drop}
use Rattle.mp_netlist.specs.Drivers.{port_from}
use Rattle.mp_netlist.proofs.module_table.at_wires.port_among.Given as goal

-- what is left has the port of the whole
abbrev pub invariant-loop-p : goal.invariant-loop-p
invariant-loop-p l = port_from l.p (drop l.p l.ports) l.wire.0 ≡ port_from 0 l.ports l.wire.0
