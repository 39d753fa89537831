use Rattle.std.proofs.Common.{ap, sym, ◌∙◌}
use Rattle.mp_wave.specs.Waveform.{Waveform}
use Rattle.mp_wave.specs.WaveChanges.{changes_in, held_changes}
use Rattle.mp_wave.proofs.WaveformLemmas.{IsNonDecreasingBy-changes, level_before, level_before-point, level_before-change}
use Rattle.mp_wave.proofs.wave.Wave.level_at.Goals as goal

pub count_upto-count-requires : goal.count_upto-count-requires
count_upto-count-requires c = rw c.changes-changes.ensures.value (IsNonDecreasingBy-changes 0 c.args.self.now.initial c.args.self.now.changes c.changes-changes.ensures.form)

pub returns-then-count-eq0-clause-value : goal.returns-then-count-eq0-clause-value
returns-then-count-eq0-clause-value c =
    sym (ap (level_before c.self.inside.initial (changes_in c.changes-changes.result)) c.if-count-eq0.true)
    ∙ level_before-point c.args.self.now c.self.inside.initial c.args.time c.count_upto-count.result (held_changes c.self.inside.initial c.self.inside.held) (changes_in c.changes-changes.result)
    c.self.view_is (c.changes-changes.ensures.value ∙ sym (ap (λ (w : Waveform). w.changes) c.self.view_is)) c.self.invariant.form c.count_upto-count.ensures.bound
    (λ rises. (c.count_upto-count.ensures.early, c.count_upto-count.ensures.late))

pub returns-clause-value : goal.returns-clause-value
returns-clause-value c =
    c.level_at.ensures ∙ sym (level_before-change c.self.inside.initial c.count_upto-count.result (changes_in c.changes-changes.result) c.if-count-eq0.false)
    ∙ level_before-point c.args.self.now c.self.inside.initial c.args.time c.count_upto-count.result (held_changes c.self.inside.initial c.self.inside.held) (changes_in c.changes-changes.result)
    c.self.view_is (c.changes-changes.ensures.value ∙ sym (ap (λ (w : Waveform). w.changes) c.self.view_is)) c.self.invariant.form c.count_upto-count.ensures.bound
    (λ rises. (c.count_upto-count.ensures.early, c.count_upto-count.ensures.late))
