use Rattle.mp_simulation.proofs.lemmas.bits.WholeLemmas.{slots_have_all}
use Rattle.mp_simulation.proofs.bits.laws.slots_have_all.Goals as goal

pub returns : goal.returns
returns c = slots_have_all
