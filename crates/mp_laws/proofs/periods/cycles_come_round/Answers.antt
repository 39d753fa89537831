use Rattle.mp_laws.proofs.RoundLemmas.{cycles_come_round}
use Rattle.mp_laws.proofs.periods.cycles_come_round.Goals as goal

pub returns : goal.returns
returns c = cycles_come_round
