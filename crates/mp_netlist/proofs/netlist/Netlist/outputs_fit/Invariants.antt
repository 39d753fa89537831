use Rattle.std.proofs.Common.{◌≡◌, drop}
use Rattle.std.specs.List.{list_all, enumerate_from}
use Rattle.mp_netlist.specs.Edits.{outputs_fit}
use Rattle.mp_netlist.specs.NewPorts.{output_fits}
use Rattle.mp_netlist.proofs.netlist.Netlist.outputs_fit.Given as goal

-- what is left decides
abbrev pub invariant-loop-port : goal.invariant-loop-port
invariant-loop-port l =
    list_all (output_fits l.self l.new.kind l.width) (enumerate_from l.port (drop l.port l.outputs))
    ≡ outputs_fit l.self l.new.kind l.width l.new.outputs
