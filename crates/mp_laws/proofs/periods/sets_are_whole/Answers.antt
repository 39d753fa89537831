use Rattle.mp_laws.proofs.WholeLemmas.{sets_are_whole}
use Rattle.mp_laws.proofs.periods.sets_are_whole.Goals as goal

pub returns : goal.returns
returns c = sets_are_whole
