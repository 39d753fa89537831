use Rattle.std.proofs.Common.{◌≡◌, length, map, take, drop}
use Rattle.std.specs.List.{list_all}
use Rattle.mp_netlist.specs.Edits.{stands, driven_names}
use Rattle.mp_netlist.specs.NewPorts.{named_output}
use Rattle.mp_netlist.proofs.netlist.Netlist.named_outputs.Given as goal

-- the ports so far, and what is left decides
abbrev pub invariant-loop-port : goal.invariant-loop-port
invariant-loop-port l = record {
  few : length l.ports.items ≡ l.port-index;
  so_far : l.ports.items ≡ map (named_output l.self) (take l.port-index l.port-items);
  rest : list_all (stands l.self) (driven_names (drop l.port-index l.port-items)) ≡ list_all (stands l.self) (driven_names l.names);
}
