use Rattle.mp_picture.proofs.lemmas.svg.BitRowLemmas.{bits_tell}
use Rattle.mp_picture.proofs.svg.laws.bits_tell.Goals as goal

pub returns : goal.returns
returns c = bits_tell
