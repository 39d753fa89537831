use Rattle.mp_simulation.proofs.lemmas.bits.PortEventLemmas.{ports_have_events}
use Rattle.mp_simulation.proofs.bits.laws.ports_have_events.Goals as goal

pub returns : goal.returns
returns c = ports_have_events
