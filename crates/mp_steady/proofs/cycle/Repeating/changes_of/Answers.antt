use Rattle.std.proofs.Common.{◌≡◌, ◌-◌, ap, ◌∙◌, arith}
use Rattle.mp_wave.specs.Waveform.{Waveform, between}
use Rattle.mp_wave.proofs.ChangesLemmas.{form_of_wave, levels_of_wave}
use Rattle.mp_model.specs.Waves.{level, wave}
use Rattle.mp_questions.specs.timing.Events.{times_of}
use Rattle.mp_questions.proofs.lemmas.timing.EventLemmas.{times_within}
use Rattle.mp_steady.proofs.cycle.Repeating.changes_of.Goals as goal

pub returns-clause-value : goal.returns-clause-value
returns-clause-value c =
    let n = c.args.self.set.of.netlist.now in
    let u = c.args.self.units in
    c.changes_between.ensures.value ∙ ap (λ h. between (h - 1 - u) h c.wave_of-wave.result.now.changes) c.horizon-horizon.ensures.value
    ∙ ap (λ (v : Waveform). between (n.horizon - 1 - u) n.horizon v.changes) c.wave_of-wave.ensures

pub returns-clause-times : goal.returns-clause-times
returns-clause-times c =
    let n = c.args.self.set.of.netlist.now in
    let u = c.args.self.units in
    let f = level n c.args.wire.0 in
    let from : n.horizon - 1 - u ≡ n.horizon - u - 1 = omega arith in
    ap times_of (returns-clause-value c) ∙ ap (λ a. times_of (between a n.horizon (wave n c.args.wire.0).changes)) from
    ∙ times_within f (wave n c.args.wire.0) (n.horizon - u) n.horizon (form_of_wave f (n.horizon - 1)) (λ t below. levels_of_wave f (n.horizon - 1) t (omega (arith, below)))
