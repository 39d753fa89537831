use Rattle.mp_near.proofs.lemmas.laws.PickedCircuitLemmas.{picked_are_circuits}
use Rattle.mp_near.proofs.laws.picked_are_circuits.Goals as goal

pub returns : goal.returns
returns c = picked_are_circuits
