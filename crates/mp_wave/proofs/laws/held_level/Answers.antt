use Rattle.mp_wave.proofs.WaveformLemmas.{level_of-held_before, level_of-held_after}
use Rattle.mp_wave.proofs.laws.held_level.Goals as goal

pub returns : goal.returns
returns c wave time new t form over =
    (λ before. level_of-held_before wave time new t before, λ after. level_of-held_after wave time new t form over after)
