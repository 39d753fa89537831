use Rattle.mp_active.proofs.lemmas.steps.DataActivatedLemmas.{data_modules_activate}
use Rattle.mp_active.proofs.steps.laws.data_modules_activate.Goals as goal

pub returns : goal.returns
returns c = data_modules_activate
