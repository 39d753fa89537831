use Rattle.mp_active.proofs.lemmas.excerpt.StartingLemmas.{starts_show, starts_are_simulated, regions_are_excerpts}
use Rattle.mp_active.proofs.excerpt.laws.starts.Goals as goal

pub returns : goal.returns
returns c = record { show = starts_show; simulated = starts_are_simulated; regions = regions_are_excerpts }
