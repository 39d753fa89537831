use Rattle.mp_active.proofs.lemmas.excerpt.LevelLemmas.{excerpt_driver}
use Rattle.mp_active.proofs.excerpt.laws.excerpts_have_drivers.Goals as goal

pub returns : goal.returns
returns c = excerpt_driver
