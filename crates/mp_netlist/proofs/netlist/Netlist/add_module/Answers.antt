use Rattle.mp_netlist.proofs.EditLemmas.{IsCircuit-with_new_module}
use Rattle.mp_netlist.proofs.netlist.Netlist.add_module.Goals as goal

pub put_module-requires-clause-fits : goal.put_module-requires-clause-fits
put_module-requires-clause-fits c =
    λ ok. rw (c.requires.inputs, c.requires.outputs) (IsCircuit-with_new_module c.args.self.now ok c.args.new c.requires.allowed)
