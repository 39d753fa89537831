use Rattle.mp_near.proofs.lemmas.laws.RegionLevelLemmas.{closed_regions_stay}
use Rattle.mp_near.proofs.laws.closed_regions_stay.Goals as goal

pub returns : goal.returns
returns c = closed_regions_stay
