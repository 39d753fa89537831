use Rattle.mp_model.proofs.lemmas.response.DelayLemmas.{finds_by_states}
use Rattle.mp_model.proofs.response.laws.finds_by_states.Goals as goal

pub returns : goal.returns
returns c = finds_by_states
