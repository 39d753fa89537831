use Rattle.mp_model.proofs.EndsLemmas.{first_level}
use Rattle.mp_model.proofs.laws.begins_at_initial_levels.Goals as goal

pub returns : goal.returns
returns c = first_level
