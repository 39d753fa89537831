use Rattle.mp_model.proofs.FindingLemmas.{finds_by_rule}
use Rattle.mp_model.proofs.laws.finds_by_rule.Goals as goal

pub returns : goal.returns
returns c = finds_by_rule
