use Rattle.mp_active.proofs.lemmas.excerpt.TurningLemmas.{turning_shows}
use Rattle.mp_active.proofs.excerpt.laws.turning.Goals as goal

pub returns : goal.returns
returns c = turning_shows
