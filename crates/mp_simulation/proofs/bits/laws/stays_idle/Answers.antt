use Rattle.mp_simulation.proofs.lemmas.bits.RestingLemmas.{stays_idle}
use Rattle.mp_simulation.proofs.bits.laws.stays_idle.Goals as goal

pub returns : goal.returns
returns c = stays_idle
