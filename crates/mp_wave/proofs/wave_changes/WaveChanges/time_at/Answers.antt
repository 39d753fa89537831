use Rattle.std.proofs.Common.{◌≡◌, ◌<◌, length, slice_index_or, sym, ◌∙◌, subst, arith}
use Rattle.mp_wave.specs.declared.wave_changes.WaveChanges.{WaveChanges}
use Rattle.mp_wave.specs.WaveChanges.{changes_in}
use Rattle.mp_wave.specs.Faults.{pair_at}
use Rattle.mp_wave.proofs.WaveChangesLemmas.{length_toggles, time_of_toggle}
use Rattle.mp_wave.proofs.wave_changes.WaveChanges.time_at.Goals as goal

pub time_of-requires : goal.time_of-requires
time_of-requires c =
    let within = subst (λ (w : WaveChanges). c.args.place < length (changes_in w)) c.in-Toggles.is c.requires in
    omega (arith, within, length_toggles c.in-Toggles.level c.in-Toggles.times.now)

pub returns-in-Toggles : goal.returns-in-Toggles
returns-in-Toggles c =
    c.time_of.ensures ∙ subst (λ (w : WaveChanges). slice_index_or c.in-Toggles.times.now c.args.place 0 ≡ (pair_at (changes_in w) c.args.place).0) (sym c.in-Toggles.is)
    (sym (time_of_toggle c.in-Toggles.level c.args.place (0, 0) c.in-Toggles.times.now))
