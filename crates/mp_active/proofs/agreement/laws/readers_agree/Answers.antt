use Rattle.mp_active.proofs.lemmas.agreement.ReadingLemmas.{inputs_are_late, quiet_where_alike, sleepers_read_alike}
use Rattle.mp_active.proofs.agreement.laws.readers_agree.Goals as goal

pub returns : goal.returns
returns c = record { inputs = inputs_are_late; quiet = quiet_where_alike; sleepers = sleepers_read_alike }
