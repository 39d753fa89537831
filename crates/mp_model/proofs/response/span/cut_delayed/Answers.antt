use Rattle.std.proofs.Common.{◌≡◌, refl, ap, sym, ◌∙◌, arith}
use Rattle.mp_wave.specs.Waveform.{level_of, between}
use Rattle.mp_wave.proofs.PrefixLemmas.{AreChanges-between, last_time-between}
use Rattle.mp_model.specs.response.Pieces.{put_off, later_by}
use Rattle.mp_model.proofs.lemmas.response.LateLemmas.{late_level_of, IsWaveform-later_by, late_fits, late_changes}
use Rattle.mp_model.proofs.response.span.cut_delayed.Goals as goal

pub put_off-requires : goal.put_off-requires
put_off-requires c =
    late_fits c.args.delay c.saturating_sub-start.result c.args.to c.saturating_sub-end.result c.args.wave.now.changes _ c.saturating_sub-end.ensures (omega (arith, c.ranges.to)) c.changes_between.ensures.value

pub returns-clause-value : goal.returns-clause-value
returns-clause-value c =
    let wave = c.args.wave.now in
    let form = c.level_at-at_from.ensures.form in
    let level : c.level_at-at_from.result ≡ level_of (later_by c.args.delay wave) c.args.from
    = c.level_at-at_from.ensures.value ∙ ap (level_of wave) c.saturating_sub-start.ensures ∙ sym (late_level_of c.args.delay c.args.from wave form) in
    let changes : c.from_vec.result ≡ between c.args.from c.args.to (put_off c.args.delay wave.changes)
    = c.from_vec.ensures ∙ late_changes c.args.delay c.args.from c.args.to _ _ wave _ _ form c.saturating_sub-start.ensures c.saturating_sub-end.ensures c.changes_between.ensures.value c.in_ok-changes.ensures in
    rw (level, changes) refl

pub returns-clause-form : goal.returns-clause-form
returns-clause-form c =
    let wave = c.args.wave.now in
    let form = c.level_at-at_from.ensures.form in
    let later = later_by c.args.delay wave in
    let later_form = IsWaveform-later_by c.args.delay wave form in
    let level : c.level_at-at_from.result ≡ level_of later c.args.from
    = c.level_at-at_from.ensures.value ∙ ap (level_of wave) c.saturating_sub-start.ensures ∙ sym (late_level_of c.args.delay c.args.from wave form) in
    let changes : c.from_vec.result ≡ between c.args.from c.args.to later.changes
    = c.from_vec.ensures ∙ late_changes c.args.delay c.args.from c.args.to _ _ wave _ _ form c.saturating_sub-start.ensures c.saturating_sub-end.ensures c.changes_between.ensures.value c.in_ok-changes.ensures in
    rw (changes, level) (record { form = AreChanges-between later c.args.from c.args.to later_form; within = last_time-between later c.args.from c.args.to later_form c.requires })
