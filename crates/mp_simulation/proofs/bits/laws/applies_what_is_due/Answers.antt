use Rattle.mp_simulation.proofs.lemmas.bits.DueLemmas.{can_apply}
use Rattle.mp_simulation.proofs.bits.laws.applies_what_is_due.Goals as goal

pub returns : goal.returns
returns c = can_apply
