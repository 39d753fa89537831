use Rattle.mp_depend.proofs.lemmas.work.RevisionLemmas.{edits_revise}
use Rattle.mp_depend.proofs.work.laws.edits_revise.Goals as goal

pub returns : goal.returns
returns c = edits_revise
