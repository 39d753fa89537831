use Rattle.mp_picture.proofs.lemmas.svg.WordRowLemmas.{word_row_tells}
use Rattle.mp_picture.proofs.svg.laws.word_row_tells.Goals as goal

pub returns : goal.returns
returns c = word_row_tells
