use Rattle.mp_wave.proofs.ChangesLemmas.{changes_join}
use Rattle.mp_wave.proofs.laws.changes_join.Goals as goal

pub returns : goal.returns
returns c = changes_join
