use Rattle.mp_depend.proofs.lemmas.work.InputLemmas.{apart_by_inputs}
use Rattle.mp_depend.proofs.work.laws.apart_by_inputs.Goals as goal

pub returns : goal.returns
returns c = apart_by_inputs
