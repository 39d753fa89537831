use Rattle.mp_picture.proofs.lemmas.svg.BitRowLemmas.{bit_row_tells}
use Rattle.mp_picture.proofs.svg.laws.bit_row_tells.Goals as goal

pub returns : goal.returns
returns c = bit_row_tells
