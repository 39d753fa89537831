use Rattle.mp_laws.proofs.ForEverLemmas.{stands_for_ever}
use Rattle.mp_laws.proofs.deadlocks.deadlocks_stand_for_ever.Goals as goal

pub returns : goal.returns
returns c = stands_for_ever
