use Rattle.mp_model.proofs.LevelFitLemmas.{level_fits}
use Rattle.mp_model.proofs.laws.levels_have_width.Goals as goal

pub returns : goal.returns
returns c = level_fits
