use Rattle.mp_depend.proofs.lemmas.work.StayLemmas.{states_stay, unreached_states}
use Rattle.mp_depend.proofs.lemmas.work.LevelLemmas.{levels_stay, unreached_levels}
use Rattle.mp_depend.proofs.work.laws.unreached.Goals as goal

pub returns : goal.returns
returns c = record { states = states_stay; states_below = unreached_states; levels = levels_stay; levels_below = unreached_levels }
