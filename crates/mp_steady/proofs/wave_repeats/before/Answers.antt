use Rattle.std.proofs.Common.{◌≡◌, ◌-◌, take, ap, sym, ◌∙◌, arith}
use Rattle.mp_wave.specs.Waveform.{last_time}
use Rattle.mp_wave.specs.WaveChanges.{changes_in}
use Rattle.mp_steady.proofs.WaveRepeatLemmas.{all_earlier, last_dropped}
use Rattle.mp_steady.proofs.wave_repeats.before.Goals as goal

pub returns-then-time_of-time : goal.returns-then-time_of-time
returns-then-time_of-time c level are =
    let xs = changes_in c.args.changes in
    sym (all_earlier c.args.time 0 level xs are (omega (arith, c.time_of.ensures, c.if-time_of-time.true)))

pub returns : goal.returns
returns c level are =
    let xs = changes_in c.args.changes in
    let is : last_time 0 xs ≡ c.args.time = omega (arith, c.time_of.ensures, c.if-time_of-time.false, c.requires) in
    c.before_place.ensures ∙ ap (λ k. take k xs) (c.saturating_sub.ensures ∙ ap (λ k. k - 1) c.len.ensures) ∙ last_dropped c.args.time 0 level xs are is
