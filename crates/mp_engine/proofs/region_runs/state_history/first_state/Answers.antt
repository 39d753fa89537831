use Rattle.mp_model.proofs.BuiltLemmas.{width_of_module}
use Rattle.mp_engine.proofs.region_runs.state_history.first_state.Goals as goal

pub built-requires-clause-width : goal.built-requires-clause-width
built-requires-clause-width c = width_of_module c.args.netlist.now c.requires c.in-Some.found.now c.in-Some.ensures.form

pub built-requires-clause-params : goal.built-requires-clause-params
built-requires-clause-params c = c.in-Some.ensures.form.params
