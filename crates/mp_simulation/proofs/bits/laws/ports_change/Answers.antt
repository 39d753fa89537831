use Rattle.mp_simulation.proofs.lemmas.bits.ChangeLemmas.{ports_change, ports_begin, ports_wait}
use Rattle.mp_simulation.proofs.bits.laws.ports_change.Goals as goal

pub returns : goal.returns
returns c = record { later = ports_change; first = ports_begin; before = ports_wait }
