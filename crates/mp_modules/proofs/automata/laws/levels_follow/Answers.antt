use Rattle.mp_modules.proofs.lemmas.automata.LevelLemmas.{levels_follow}
use Rattle.mp_modules.proofs.automata.laws.levels_follow.Goals as goal

pub returns : goal.returns
returns c = levels_follow
