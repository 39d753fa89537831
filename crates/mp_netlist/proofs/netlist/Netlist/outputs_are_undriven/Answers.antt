use Rattle.std.proofs.Common.{ap, ◌∙◌}
use Rattle.std.specs.List.{list_all}
use Rattle.mp_netlist.specs.NewPorts.{output_is_undriven}
use Rattle.mp_netlist.proofs.NewPortLemmas.{named_are_undriven}
use Rattle.mp_netlist.proofs.netlist.Netlist.outputs_are_undriven.Goals as goal

pub loop-output-init : goal.loop-output-init
loop-output-init c =
    let n = c.args.self.now in
    ap (list_all (output_is_undriven n)) (c.as_slice-outputs.ensures ∙ c.requires.outputs) ∙ named_are_undriven n c.args.new.now.outputs
