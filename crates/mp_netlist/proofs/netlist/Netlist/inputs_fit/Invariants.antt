use Rattle.std.proofs.Common.{◌≡◌, drop}
use Rattle.std.specs.List.{list_all, enumerate_from}
use Rattle.mp_netlist.specs.Edits.{inputs_fit}
use Rattle.mp_netlist.specs.NewPorts.{input_fits}
use Rattle.mp_netlist.proofs.netlist.Netlist.inputs_fit.Given as goal

-- what is left decides
abbrev pub invariant-loop-port : goal.invariant-loop-port
invariant-loop-port l =
    list_all (input_fits l.self l.new.kind l.width) (enumerate_from l.port (drop l.port l.inputs))
    ≡ inputs_fit l.self l.new.kind l.width l.new.inputs
