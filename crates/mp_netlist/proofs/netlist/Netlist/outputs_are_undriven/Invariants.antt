use Rattle.std.proofs.Common.{◌≡◌, drop}
use Rattle.std.specs.List.{list_all}
use Rattle.mp_netlist.specs.Edits.{is_undriven, driven_names}
use Rattle.mp_netlist.specs.NewPorts.{output_is_undriven}
use Rattle.mp_netlist.proofs.netlist.Netlist.outputs_are_undriven.Given as goal

-- what is left decides
abbrev pub invariant-loop-output : goal.invariant-loop-output
invariant-loop-output l =
    list_all (output_is_undriven l.self) (drop l.output-index l.outputs) ≡ list_all (is_undriven l.self) (driven_names l.new.outputs)
