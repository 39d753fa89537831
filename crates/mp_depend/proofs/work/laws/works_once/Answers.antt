use Rattle.mp_depend.proofs.lemmas.work.EntryLemmas.{works_throughout, works_once}
use Rattle.mp_depend.proofs.work.laws.works_once.Goals as goal

pub returns : goal.returns
returns c = record { throughout = works_throughout; once = works_once }
