use Rattle.std.proofs.Common.{◌≡◌, length, map, take, drop}
use Rattle.mp_netlist.specs.Edits.{inputs_stand}
use Rattle.mp_netlist.specs.NewPorts.{named_input}
use Rattle.mp_netlist.proofs.netlist.Netlist.named_inputs.Given as goal

-- the ports so far, and what is left decides
abbrev pub invariant-loop-port : goal.invariant-loop-port
invariant-loop-port l = record {
  few : length l.ports.items ≡ l.port-index;
  so_far : l.ports.items ≡ map (named_input l.self) (take l.port-index l.port-items);
  rest : inputs_stand l.self (drop l.port-index l.port-items) ≡ inputs_stand l.self l.names;
}
