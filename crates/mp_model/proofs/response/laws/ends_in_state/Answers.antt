use Rattle.mp_model.proofs.lemmas.response.DelayLemmas.{ends_in_state}
use Rattle.mp_model.proofs.response.laws.ends_in_state.Goals as goal

pub returns : goal.returns
returns c = ends_in_state
