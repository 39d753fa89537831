use Rattle.std.proofs.Common.{◌-◌, arith}
use Rattle.mp_model.specs.Waves.{level}
use Rattle.mp_wave.proofs.ChangesLemmas.{levels_of_wave}
use Rattle.mp_model.proofs.laws.wave_levels.Goals as goal

pub returns : goal.returns
returns c n ok w t below = levels_of_wave (level n w) (n.horizon - 1) t (omega (arith, ok.horizon_low))
