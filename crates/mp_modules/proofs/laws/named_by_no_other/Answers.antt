use Rattle.mp_modules.proofs.WordLemmas.{by_no_other}
use Rattle.mp_modules.proofs.laws.named_by_no_other.Goals as goal

pub returns : goal.returns
returns c = by_no_other
