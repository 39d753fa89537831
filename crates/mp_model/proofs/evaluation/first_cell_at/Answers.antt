use Rattle.mp_model.proofs.BuiltLemmas.{width_of_module}
use Rattle.mp_model.proofs.evaluation.first_cell_at.Goals as goal

pub built-part-requires-clause-width : goal.built-part-requires-clause-width
built-part-requires-clause-width c = width_of_module c.args.netlist.now c.requires c.in_ok-record.record.now c.in_ok-record.ensures.form

pub built-part-requires-clause-params : goal.built-part-requires-clause-params
built-part-requires-clause-params c = c.in_ok-record.ensures.form.params
