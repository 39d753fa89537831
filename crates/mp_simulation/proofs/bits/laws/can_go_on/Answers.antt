use Rattle.mp_simulation.proofs.lemmas.bits.SimulationLemmas.{can_go_on}
use Rattle.mp_simulation.proofs.bits.laws.can_go_on.Goals as goal

pub returns : goal.returns
returns c = can_go_on
