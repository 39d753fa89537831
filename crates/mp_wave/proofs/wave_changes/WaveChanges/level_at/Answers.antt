use Rattle.std.proofs.Common.{◌≡◌, ◌<◌, ◌-◌, length, sym, ◌∙◌, ap, subst, arith}
use Rattle.mp_wave.specs.declared.wave_changes.WaveChanges.{WaveChanges}
use Rattle.mp_wave.specs.WaveChanges.{changes_in}
use Rattle.mp_wave.specs.Faults.{pair_at}
use Rattle.mp_wave.specs.ToggleWaves.{level_after}
use Rattle.mp_wave.proofs.WaveChangesLemmas.{length_toggles, level_of_toggle}
use Rattle.mp_wave.proofs.wave_changes.WaveChanges.level_at.Goals as goal

pub returns-in-Toggles : goal.returns-in-Toggles
returns-in-Toggles c =
    let times = c.in-Toggles.times.now in
    let level = c.in-Toggles.level in
    let within = subst (λ (w : WaveChanges). c.args.place < length (changes_in w)) c.in-Toggles.is c.requires in
    c.toggled.ensures ∙ ap (λ v. level_after v c.args.place) c.saturating_sub.ensures
    ∙ subst (λ (w : WaveChanges). level_after (1 - level) c.args.place ≡ (pair_at (changes_in w) c.args.place).1) (sym c.in-Toggles.is)
    (sym (level_of_toggle level c.args.place (0, 0) times (omega (arith, within, length_toggles level times))))
