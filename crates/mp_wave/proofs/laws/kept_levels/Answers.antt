use Rattle.mp_wave.proofs.PrefixLemmas.{kept_levels}
use Rattle.mp_wave.proofs.laws.kept_levels.Goals as goal

pub returns : goal.returns
returns c = kept_levels
