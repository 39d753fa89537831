use Rattle.mp_near.proofs.lemmas.laws.RegionLevelLemmas.{regions_have_levels}
use Rattle.mp_near.proofs.laws.regions_have_levels.Goals as goal

pub returns : goal.returns
returns c = regions_have_levels
