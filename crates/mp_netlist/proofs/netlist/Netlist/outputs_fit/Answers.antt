use Rattle.std.proofs.Common.{ap, ◌∙◌}
use Rattle.std.specs.List.{list_all, enumerate_from}
use Rattle.mp_netlist.specs.NewPorts.{output_fits}
use Rattle.mp_netlist.proofs.NewPortLemmas.{named_outputs_fit}
use Rattle.mp_netlist.proofs.netlist.Netlist.outputs_fit.Goals as goal

pub loop-port-init : goal.loop-port-init
loop-port-init c =
    let n = c.args.self.now in
    let new = c.args.new.now in
    ap (λ outputs. list_all (output_fits n new.kind c.args.width) (enumerate_from 0 outputs)) (c.as_slice-outputs.ensures ∙ c.requires.outputs)
    ∙ named_outputs_fit n new.kind c.args.width 0 new.outputs c.requires.drives
