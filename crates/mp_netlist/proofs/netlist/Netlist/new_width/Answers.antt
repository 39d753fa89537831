use Rattle.std.proofs.Common.{ap, ◌∙◌}
use Rattle.mp_modules.specs.Kinds.{width_from}
use Rattle.mp_netlist.specs.NewPorts.{width_of_first}
use Rattle.mp_netlist.proofs.NewPortLemmas.{width_named_first}
use Rattle.mp_netlist.proofs.netlist.Netlist.new_width.Goals as goal

pub returns : goal.returns
returns c =
    let n = c.args.self.now in
    let new = c.args.new.now in
    c.width_with.ensures
    ∙ ap (λ inputs. width_from new.kind (width_of_first n inputs)) (c.as_slice.ensures ∙ c.requires.inputs)
    ∙ width_named_first n new.kind new.inputs c.requires.reads
