use Rattle.mp_depend.proofs.lemmas.work.WorkLemmas.{rejoins}
use Rattle.mp_depend.proofs.work.laws.rejoins.Goals as goal

pub returns : goal.returns
returns c = rejoins
