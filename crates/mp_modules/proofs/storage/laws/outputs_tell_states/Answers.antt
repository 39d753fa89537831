use Rattle.mp_modules.proofs.lemmas.storage.PartLemmas.{told_by_outputs}
use Rattle.mp_modules.proofs.storage.laws.outputs_tell_states.Goals as goal

pub returns : goal.returns
returns c part = told_by_outputs part
