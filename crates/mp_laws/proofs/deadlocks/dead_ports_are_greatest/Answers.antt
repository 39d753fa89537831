use Rattle.mp_laws.proofs.ForEverLemmas.{dead_are_greatest}
use Rattle.mp_laws.proofs.deadlocks.dead_ports_are_greatest.Goals as goal

pub returns : goal.returns
returns c = dead_are_greatest
