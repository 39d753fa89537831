use Rattle.mp_laws.proofs.AgainLemmas.{findings_repeat_for_ever}
use Rattle.mp_laws.proofs.periods.findings_repeat_for_ever.Goals as goal

pub returns : goal.returns
returns c = findings_repeat_for_ever
