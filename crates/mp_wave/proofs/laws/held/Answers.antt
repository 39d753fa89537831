use Rattle.mp_wave.proofs.ChangesLemmas.{held}
use Rattle.mp_wave.proofs.laws.held.Goals as goal

pub returns : goal.returns
returns c = held
