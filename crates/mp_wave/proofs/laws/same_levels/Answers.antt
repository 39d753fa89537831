use Rattle.mp_wave.proofs.WaveformLemmas.{same_levels}
use Rattle.mp_wave.proofs.laws.same_levels.Goals as goal

pub returns : goal.returns
returns c = same_levels
