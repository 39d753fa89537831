use Rattle.mp_active.proofs.lemmas.steps.SleptLemmas.{sleeping_leaves}
use Rattle.mp_active.proofs.steps.laws.sleeping_leaves.Goals as goal

pub returns : goal.returns
returns c = sleeping_leaves
