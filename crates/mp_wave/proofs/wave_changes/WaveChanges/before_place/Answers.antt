use Rattle.std.proofs.Common.{◌≡◌, ◌≤◌, take, length, sym, subst, arith}
use Rattle.mp_wave.specs.declared.wave_changes.WaveChanges.{WaveChanges}
use Rattle.mp_wave.specs.WaveChanges.{changes_in}
use Rattle.mp_wave.specs.ToggleWaves.{toggle_changes}
use Rattle.mp_wave.proofs.WaveChangesLemmas.{length_toggles, length_front, take_toggles}
use Rattle.mp_wave.proofs.wave_changes.WaveChanges.before_place.Goals as goal

pub slice_bounds-result-end : goal.slice_bounds-result-end
slice_bounds-result-end c =
    let within = subst (λ (w : WaveChanges). c.args.place ≤ length (changes_in w)) c.in-Toggles.is c.requires in
    length_front c.args.place c.in-Toggles.times.now (omega (arith, within, length_toggles c.in-Toggles.level c.in-Toggles.times.now))

pub returns-in-Toggles : goal.returns-in-Toggles
returns-in-Toggles c =
    subst (λ (w : WaveChanges). toggle_changes c.in-Toggles.level (take c.args.place c.in-Toggles.times.now) ≡ take c.args.place (changes_in w)) (sym c.in-Toggles.is)
    (sym (take_toggles c.args.place c.in-Toggles.level c.in-Toggles.times.now))
