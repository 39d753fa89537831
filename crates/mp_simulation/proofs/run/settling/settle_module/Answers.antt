use Rattle.mp_model.proofs.BuiltLemmas.{width_of_module}
use Rattle.mp_simulation.proofs.run.settling.settle_module.Goals as goal

pub built-part-requires-clause-width : goal.built-part-requires-clause-width
built-part-requires-clause-width c = width_of_module c.args.netlist.now c.requires.form c.in-Some.found.now c.in-Some.ensures.form
