use Rattle.mp_active.proofs.lemmas.compare.PortLemmas.{reads_are_listed}
use Rattle.mp_active.proofs.compare.laws.reads_are_listed.Goals as goal

pub returns : goal.returns
returns c = reads_are_listed
