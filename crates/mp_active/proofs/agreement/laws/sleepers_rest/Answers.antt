use Rattle.mp_active.proofs.lemmas.agreement.RestingLemmas.{sleepers_rest, untouched_are_kept}
use Rattle.mp_active.proofs.agreement.laws.sleepers_rest.Goals as goal

pub returns : goal.returns
returns c = record { rest = sleepers_rest; kept = untouched_are_kept }
