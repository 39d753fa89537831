use Rattle.mp_simulation.proofs.lemmas.bits.WidthLemmas.{have_bits}
use Rattle.mp_simulation.proofs.bits.laws.modules_have_bits.Goals as goal

pub returns : goal.returns
returns c = have_bits
