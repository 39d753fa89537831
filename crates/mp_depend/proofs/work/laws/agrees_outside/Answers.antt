use Rattle.mp_depend.proofs.lemmas.work.WorkLemmas.{agrees_outside, levels_agree_outside}
use Rattle.mp_depend.proofs.work.laws.agrees_outside.Goals as goal

pub returns : goal.returns
returns c = record { states = agrees_outside; levels = levels_agree_outside }
