use Rattle.mp_active.proofs.lemmas.steps.ListedLemmas.{lists_taken}
use Rattle.mp_active.proofs.steps.laws.lists_taken.Goals as goal

pub returns : goal.returns
returns c = lists_taken
