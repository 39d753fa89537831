use Rattle.mp_active.proofs.lemmas.excerpt.LeavingLemmas.{leaving_shows}
use Rattle.mp_active.proofs.excerpt.laws.leaving.Goals as goal

pub returns : goal.returns
returns c = leaving_shows
