-- The level at an input is that of its wire's wave, later by the input's delay.
use Rattle.std.proofs.Common.{◌-◌, sym, ◌∙◌, arith}
use Rattle.mp_model.specs.Waves.{level, wave}
use Rattle.mp_wave.proofs.ChangesLemmas.{levels_of_wave, form_of_wave}
use Rattle.mp_model.proofs.InputLemmas.{input_is}
use Rattle.mp_model.proofs.lemmas.response.LateLemmas.{late_level_of}
use Rattle.mp_laws.specs.DelayedInputs.{ReadsLaterWave}

pub reads_later_wave : ReadsLaterWave
reads_later_wave n ok i t below =
    let w = i.wire.0 in
    late_level_of i.delay t (wave n w) (form_of_wave (level n w) (n.horizon - 1)) ∙ levels_of_wave (level n w) (n.horizon - 1) (t - i.delay) (omega (arith, ok.horizon_low)) ∙ sym (input_is n ok i t)
