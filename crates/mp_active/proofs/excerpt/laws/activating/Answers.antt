use Rattle.mp_active.proofs.lemmas.excerpt.ActivatingLemmas.{activating_shows}
use Rattle.mp_active.proofs.excerpt.laws.activating.Goals as goal

pub returns : goal.returns
returns c = activating_shows
