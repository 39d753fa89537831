use Rattle.mp_model.proofs.BuiltLemmas.{width_of_module}
use Rattle.mp_depend.proofs.recording.states.start_of.Goals as goal

pub built-requires-clause-width : goal.built-requires-clause-width
built-requires-clause-width c = width_of_module c.args.netlist.now c.requires c.in-Some.found.now c.in-Some.ensures.form

pub built-requires-clause-params : goal.built-requires-clause-params
built-requires-clause-params c = c.in-Some.ensures.form.params
