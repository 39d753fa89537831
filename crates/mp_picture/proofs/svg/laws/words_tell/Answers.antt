use Rattle.mp_picture.proofs.lemmas.svg.WordRowLemmas.{words_tell}
use Rattle.mp_picture.proofs.svg.laws.words_tell.Goals as goal

pub returns : goal.returns
returns c = words_tell
