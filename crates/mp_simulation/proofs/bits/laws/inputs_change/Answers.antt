use Rattle.mp_simulation.proofs.lemmas.bits.ChangeLemmas.{inputs_change}
use Rattle.mp_simulation.proofs.bits.laws.inputs_change.Goals as goal

pub returns : goal.returns
returns c = inputs_change
