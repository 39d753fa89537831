use Rattle.std.proofs.Common.{ap, sym, ◌∙◌}
use Rattle.mp_wave.specs.Waveform.{Waveform}
use Rattle.mp_wave.specs.WaveChanges.{changes_in, held_changes}
use Rattle.mp_wave.proofs.DifferenceLemmas.{different_start, first_found, differ_as}
use Rattle.mp_wave.proofs.wave.Wave.first_difference.Goals as goal

pub returns-else-upto-eq0-clause-some : goal.returns-else-upto-eq0-clause-some
returns-else-upto-eq0-clause-some c =
    differ_as _ _ c.args.self.now c.args.other.now c.args.upto 0 c.self.view_is c.other.view_is
    (different_start c.self.inside.initial c.other.inside.initial c.args.upto (held_changes c.self.inside.initial c.self.inside.held) (held_changes c.other.inside.initial c.other.inside.held) c.self.invariant.form c.other.invariant.form c.if-self-other.true c.if-upto-eq0.false)

pub returns-then-time-upto-clause-some : goal.returns-then-time-upto-clause-some
returns-then-time-upto-clause-some c =
    differ_as _ _ c.args.self.now c.args.other.now c.args.upto c.agree_until-time.result c.self.view_is c.other.view_is
    (first_found c.self.inside.initial c.other.inside.initial c.args.upto c.agree_until-time.result (changes_in c.changes-ours.result) (changes_in c.changes-theirs.result) (held_changes c.self.inside.initial c.self.inside.held) (held_changes c.other.inside.initial c.other.inside.held) c.if-self-other.false (c.changes-ours.ensures.value ∙ sym (ap (λ (w : Waveform). w.changes) c.self.view_is)) (c.changes-theirs.ensures.value ∙ sym (ap (λ (w : Waveform). w.changes) c.other.view_is)) c.agree_until-time.ensures.same c.agree_until-time.ensures.differ c.if-time-upto.true)
