use Rattle.std.proofs.Common.{◌++◌, List, ℕ, ap, sym, ◌∙◌}
use Rattle.mp_wave.specs.ToggleWaves.{times_of}
use Rattle.mp_wave.specs.WaveChanges.{changes_in}
use Rattle.mp_wave.proofs.ToggleWaveLemmas.{times_of-toggles}
use Rattle.mp_wave.proofs.toggle_wave.push_times.Goals as goal

pub returns-in_ok-extend_from_slice-in-Toggles : goal.returns-in_ok-extend_from_slice-in-Toggles
returns-in_ok-extend_from_slice-in-Toggles c =
    c.in_ok-extend_from_slice-in-Toggles.ensures.items
    ∙ ap (λ (ys : List ℕ). c.args.times.now.items ++ ys)
    (sym (times_of-toggles c.in-Toggles.level c.in-Toggles.more.now) ∙ ap (λ changes. times_of (changes_in changes)) (sym c.in-Toggles.is))
