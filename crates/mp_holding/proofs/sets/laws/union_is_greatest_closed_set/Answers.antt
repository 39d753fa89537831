use Rattle.mp_holding.proofs.lemmas.sets.ClosedLemmas.{union_is_closed, has_closed_sets}
use Rattle.mp_holding.proofs.sets.laws.union_is_greatest_closed_set.Goals as goal

pub returns-clause-closed : goal.returns-clause-closed
returns-clause-closed c = union_is_closed

pub returns-clause-greatest : goal.returns-clause-greatest
returns-clause-greatest c = has_closed_sets
