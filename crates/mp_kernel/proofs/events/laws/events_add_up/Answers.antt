use Rattle.mp_kernel.proofs.lemmas.events.PortLemmas.{events_add_up}
use Rattle.mp_kernel.proofs.events.laws.events_add_up.Goals as goal

pub returns : goal.returns
returns c = events_add_up
