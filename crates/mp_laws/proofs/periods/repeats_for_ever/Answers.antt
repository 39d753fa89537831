use Rattle.mp_laws.proofs.RepeatLemmas.{repeats_for_ever}
use Rattle.mp_laws.proofs.periods.repeats_for_ever.Goals as goal

pub returns : goal.returns
returns c = repeats_for_ever
