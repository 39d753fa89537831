use Rattle.mp_active.proofs.lemmas.steps.OldChangeLemmas.{spans_join}
use Rattle.mp_active.proofs.steps.laws.spans_join.Goals as goal

pub returns : goal.returns
returns c = spans_join
