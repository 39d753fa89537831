use Rattle.std.proofs.Common.{◌≡◌, ◌≤◌, ℕ, List, drop, length, sym, ◌∙◌, ap, subst, arith}
use Rattle.mp_wave.specs.declared.wave_changes.WaveChanges.{WaveChanges}
use Rattle.mp_wave.specs.WaveChanges.{changes_in}
use Rattle.mp_wave.specs.ToggleWaves.{toggle_changes, level_after}
use Rattle.mp_wave.proofs.WaveChangesLemmas.{length_toggles, drop_toggles}
use Rattle.mp_wave.proofs.wave_changes.WaveChanges.from_place.Goals as goal

pub times_from-requires : goal.times_from-requires
times_from-requires c =
    let within = subst (λ (w : WaveChanges). c.args.place ≤ length (changes_in w)) c.in-Toggles.is c.requires in
    omega (arith, within, length_toggles c.in-Toggles.level c.in-Toggles.times.now)

pub returns-in-Toggles : goal.returns-in-Toggles
returns-in-Toggles c =
    let times = c.in-Toggles.times.now in
    let level = c.in-Toggles.level in
    let place = c.args.place in
    ap (λ (v : ℕ). toggle_changes v c.times_from.result.now) c.level_after.ensures
    ∙ ap (λ (ts : List ℕ). toggle_changes (level_after level place) ts) c.times_from.ensures
    ∙ subst (λ (w : WaveChanges). toggle_changes (level_after level place) (drop place times) ≡ drop place (changes_in w)) (sym c.in-Toggles.is) (sym (drop_toggles place level times))
