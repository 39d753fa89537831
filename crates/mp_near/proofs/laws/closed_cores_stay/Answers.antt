use Rattle.mp_near.proofs.lemmas.laws.CoreLemmas.{closed_cores_stay}
use Rattle.mp_near.proofs.laws.closed_cores_stay.Goals as goal

pub returns : goal.returns
returns c = closed_cores_stay
