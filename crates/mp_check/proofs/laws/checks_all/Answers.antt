use Rattle.mp_check.proofs.SelectedLemmas as lemmas
use Rattle.mp_check.proofs.laws.checks_all.Goals as goal

pub returns : goal.returns
returns c = lemmas.checks_all
