use Rattle.std.proofs.Common.{ap, ◌∙◌}
use Rattle.std.specs.List.{list_all, enumerate_from}
use Rattle.mp_netlist.specs.NewPorts.{input_fits}
use Rattle.mp_netlist.proofs.NewPortLemmas.{named_inputs_fit}
use Rattle.mp_netlist.proofs.netlist.Netlist.inputs_fit.Goals as goal

pub loop-port-init : goal.loop-port-init
loop-port-init c =
    let n = c.args.self.now in
    let new = c.args.new.now in
    ap (λ inputs. list_all (input_fits n new.kind c.args.width) (enumerate_from 0 inputs)) (c.as_slice-inputs.ensures ∙ c.requires.inputs)
    ∙ named_inputs_fit n new.kind c.args.width 0 new.inputs c.requires.reads
