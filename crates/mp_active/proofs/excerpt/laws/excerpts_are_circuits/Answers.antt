use Rattle.mp_active.proofs.lemmas.excerpt.ExcerptLemmas.{excerpt_is}
use Rattle.mp_active.proofs.excerpt.laws.excerpts_are_circuits.Goals as goal

pub returns : goal.returns
returns c = excerpt_is
