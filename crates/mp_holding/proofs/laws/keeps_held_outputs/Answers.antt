use Rattle.mp_holding.proofs.HoldingLemmas.{keeps_held_outputs}
use Rattle.mp_holding.proofs.laws.keeps_held_outputs.Goals as goal

pub returns : goal.returns
returns c = keeps_held_outputs
