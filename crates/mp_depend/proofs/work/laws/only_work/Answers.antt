use Rattle.mp_depend.proofs.lemmas.work.OrderLemmas.{only_work}
use Rattle.mp_depend.proofs.work.laws.only_work.Goals as goal

pub returns : goal.returns
returns c = only_work
