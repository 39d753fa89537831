use Rattle.mp_active.proofs.lemmas.steps.TurnedOnLemmas.{wires_can_turn_on}
use Rattle.mp_active.proofs.steps.laws.wires_can_turn_on.Goals as goal

pub returns : goal.returns
returns c = wires_can_turn_on
