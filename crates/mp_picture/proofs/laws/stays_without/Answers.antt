use Rattle.mp_picture.proofs.EventLemmas.{stays_without}
use Rattle.mp_picture.proofs.laws.stays_without.Goals as goal

pub returns : goal.returns
returns c = stays_without
