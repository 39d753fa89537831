use Rattle.mp_wave.proofs.PrefixLemmas.{cut_levels}
use Rattle.mp_wave.proofs.laws.cut_levels.Goals as goal

pub returns : goal.returns
returns c = cut_levels
