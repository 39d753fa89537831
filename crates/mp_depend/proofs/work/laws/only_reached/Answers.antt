use Rattle.mp_depend.proofs.lemmas.work.WorkLemmas.{only_reached}
use Rattle.mp_depend.proofs.work.laws.only_reached.Goals as goal

pub returns : goal.returns
returns c = only_reached
