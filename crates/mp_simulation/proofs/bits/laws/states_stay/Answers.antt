use Rattle.mp_simulation.proofs.lemmas.bits.StayLemmas.{states_stay}
use Rattle.mp_simulation.proofs.bits.laws.states_stay.Goals as goal

pub returns : goal.returns
returns c = states_stay
