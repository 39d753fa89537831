use Rattle.mp_near.proofs.lemmas.laws.PickedLevelLemmas.{picked_have_levels}
use Rattle.mp_near.proofs.laws.picked_have_levels.Goals as goal

pub returns : goal.returns
returns c = picked_have_levels
