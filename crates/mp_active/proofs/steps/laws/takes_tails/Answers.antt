use Rattle.mp_active.proofs.lemmas.steps.TailLemmas.{takes_tails}
use Rattle.mp_active.proofs.steps.laws.takes_tails.Goals as goal

pub returns : goal.returns
returns c = takes_tails
