use Rattle.std.proofs.Common.{sym}
use Rattle.mp_netlist.proofs.netlist.Netlist.named_ports.Goals as goal

pub returns-clause-ports : goal.returns-clause-ports
returns-clause-ports c = record {
  reads = sym c.in_ok-inputs.ensures.stand;
  drives = sym c.in_ok-outputs.ensures.stand;
  inputs = c.in_ok-inputs.ensures.inputs;
  outputs = c.in_ok-outputs.ensures.outputs;
}
