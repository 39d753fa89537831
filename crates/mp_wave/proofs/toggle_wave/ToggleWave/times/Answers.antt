use Rattle.std.proofs.Common.{subst}
use Rattle.mp_wave.specs.Waveform.{Waveform, IsWaveform}
use Rattle.mp_wave.proofs.ToggleWaveLemmas.{are_changes}
use Rattle.mp_wave.proofs.toggle_wave.ToggleWave.times.Goals as goal

pub returns-clause-form : goal.returns-clause-form
returns-clause-form c =
    subst (λ (w : Waveform). IsWaveform w) c.self.view_is (are_changes 0 c.self.inside.initial c.self.inside.times.items c.self.invariant.1)
