use Rattle.std.proofs.Common.{sym, ap, subst, ◌∙◌}
use Rattle.mp_wave.specs.Waveform.{level_of}
use Rattle.mp_wave.specs.Building.{Building}
use Rattle.mp_wave.proofs.PrefixLemmas.{kept_levels}
use Rattle.mp_active.specs.compare.Comparing.{old_wave}
use Rattle.mp_redo.specs.rerun.Splicing.{switched, IsWaveUpTo}
use Rattle.mp_redo.proofs.lemmas.rerun.SplicingLemmas.{wave_up_to, wave_switched}
use Rattle.mp_redo.proofs.rerun.splicing.spliced_wave.Goals as goal

pub returns : goal.returns
returns c =
    let before = c.args.before.now in
    let from = c.args.from in
    let old = level_of (old_wave c.args.run.now c.args.wire.0) in
    let built = c.in_ok-built.built in
    let all = c.follow_run.new.built in
    subst (IsWaveUpTo (switched from (level_of before) old) c.args.end) (sym c.finish.ensures.value)
    (wave_switched (level_of built.wave) (level_of before) old from c.args.end all.wave c.requires.below
    (λ t less. ap (λ (b : Building). level_of b.wave t) c.in_ok-built.ensures.value ∙ (kept_levels before from t c.in_ok-built.ensures.form c.requires.some).0 less)
    (wave_up_to (switched from (level_of built.wave) old) c.args.end all c.in_ok-follow_run.ensures))
