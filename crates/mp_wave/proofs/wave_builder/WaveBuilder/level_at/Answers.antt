use Rattle.std.proofs.Common.{◌≡◌, sym, ◌∙◌, subst, arith}
use Rattle.mp_wave.specs.Building.{Building}
use Rattle.mp_wave.specs.Waveform.{level_of}
use Rattle.mp_wave.proofs.PrefixLemmas.{level_from-over}
use Rattle.mp_wave.proofs.wave_builder.WaveBuilder.level_at.Goals as goal

pub returns-then-time-self : goal.returns-then-time-self
returns-then-time-self c =
    let wave = c.self.inside.wave in
    let kept = c.self.invariant in
    subst (λ (building : Building). c.self.inside.level ≡ level_of building.wave c.args.time) c.self.view_is (kept.1 ∙ sym (level_from-over 0 wave.initial c.args.time wave.changes kept.0.form (omega (arith, kept.0.over, c.if-time-self.true))))
