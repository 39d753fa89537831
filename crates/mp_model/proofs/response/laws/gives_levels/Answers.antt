use Rattle.mp_model.proofs.lemmas.response.DelayLemmas.{gives_levels}
use Rattle.mp_model.proofs.response.laws.gives_levels.Goals as goal

pub returns : goal.returns
returns c = gives_levels
