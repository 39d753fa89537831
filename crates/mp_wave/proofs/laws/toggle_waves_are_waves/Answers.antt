use Rattle.mp_wave.proofs.ToggleWaveLemmas.{toggle_waves_are_waves}
use Rattle.mp_wave.proofs.laws.toggle_waves_are_waves.Goals as goal

pub returns : goal.returns
returns c = toggle_waves_are_waves
