use Rattle.mp_near.proofs.lemmas.laws.BelowLemmas.{only_one_below}
use Rattle.mp_near.proofs.laws.only_one_below.Goals as goal

pub returns : goal.returns
returns c = only_one_below
