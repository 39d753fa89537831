use Rattle.mp_picture.proofs.EventLemmas.{tells_levels}
use Rattle.mp_picture.proofs.laws.tells_levels.Goals as goal

pub returns : goal.returns
returns c = tells_levels
