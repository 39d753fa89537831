use Rattle.mp_simulation.proofs.lemmas.bits.AdvanceLemmas.{states_advance}
use Rattle.mp_simulation.proofs.bits.laws.states_advance.Goals as goal

pub returns : goal.returns
returns c = states_advance
