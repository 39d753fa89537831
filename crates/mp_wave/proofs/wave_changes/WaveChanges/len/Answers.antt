use Rattle.std.proofs.Common.{◌≡◌, length, sym, subst}
use Rattle.mp_wave.specs.declared.wave_changes.WaveChanges.{WaveChanges}
use Rattle.mp_wave.specs.WaveChanges.{changes_in}
use Rattle.mp_wave.proofs.WaveChangesLemmas.{length_toggles}
use Rattle.mp_wave.proofs.wave_changes.WaveChanges.len.Goals as goal

pub returns-in-Toggles : goal.returns-in-Toggles
returns-in-Toggles c =
    subst (λ (w : WaveChanges). length c.in-Toggles.times.now ≡ length (changes_in w)) (sym c.in-Toggles.is) (sym (length_toggles c.in-Toggles.level c.in-Toggles.times.now))
