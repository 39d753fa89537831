use Rattle.mp_simulation.proofs.lemmas.bits.ChangeLemmas.{rests_without_events}
use Rattle.mp_simulation.proofs.bits.laws.rests_without_events.Goals as goal

pub returns : goal.returns
returns c = rests_without_events
