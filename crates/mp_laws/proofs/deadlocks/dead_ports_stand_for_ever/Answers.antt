use Rattle.mp_laws.proofs.ForEverLemmas.{dead_stand_for_ever}
use Rattle.mp_laws.proofs.deadlocks.dead_ports_stand_for_ever.Goals as goal

pub returns : goal.returns
returns c = dead_stand_for_ever
