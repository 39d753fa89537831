use Rattle.mp_picture.proofs.LevelLemmas.{levels_apart}
use Rattle.mp_picture.proofs.laws.levels_apart.Goals as goal

pub returns : goal.returns
returns c = levels_apart
