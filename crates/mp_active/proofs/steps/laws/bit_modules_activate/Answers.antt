use Rattle.mp_active.proofs.lemmas.steps.BitActivatedLemmas.{bit_modules_activate}
use Rattle.mp_active.proofs.steps.laws.bit_modules_activate.Goals as goal

pub returns : goal.returns
returns c = bit_modules_activate
