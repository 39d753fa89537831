use Rattle.mp_laws.proofs.SaidPictureLemmas.{pictures_are_said}
use Rattle.mp_laws.proofs.texts.pictures_are_said.Goals as goal

pub returns : goal.returns
returns c = pictures_are_said
