use Rattle.std.proofs.Common.{◌≡◌, ◌-◌, ap, sym, subst, ◌∙◌, arith}
use Rattle.mp_wave.specs.Waveform.{Waveform, level_of}
use Rattle.mp_active.specs.compare.Comparing.{wave_or_none, old_wave}
use Rattle.mp_redo.proofs.lemmas.rerun.RestedLemmas.{level_rests}
use Rattle.mp_redo.proofs.rerun.resting.has_rested.Goals as goal

pub returns-in-Some : goal.returns-in-Some
returns-in-Some c = λ told t least less.
    let d = c.args.input.delay in
    let wave : Waveform = c.in-Some.wave.now in
    let is : old_wave c.args.run.now c.args.input.wire.0 ≡ wave = sym (ap wave_or_none c.in-Some.ensures) in
    let first = c.saturating_sub-first.ensures in
    let last = c.saturating_sub-last.ensures in
    subst (λ (v : Waveform). level_of v (t - d) ≡ level_of v (c.args.from - 1 - d)) (sym is)
    (level_rests wave c.saturating_sub-first.result c.saturating_sub-last.result (t - d) c.rests_near.ensures.form (c.rests_near.ensures.none told) (omega (arith, first, least)) (omega (arith, last, less))
    ∙ ap (level_of wave) first)
