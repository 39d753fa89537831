use Rattle.std.proofs.Common.{sym, subst}
use Rattle.std.proofs.lemmas.Result.{on_ok_weaker}
use Rattle.mp_wave.specs.Waveform.{level_of}
use Rattle.mp_active.specs.compare.Comparing.{wave_or_none}
use Rattle.mp_redo.specs.rerun.Splicing.{switched, IsUpTo}
use Rattle.mp_redo.proofs.lemmas.rerun.SplicingLemmas.{held_up_to}
use Rattle.mp_redo.proofs.rerun.splicing.follow_run.Goals as goal

pub returns-in-None : goal.returns-in-None
returns-in-None c =
    let built = c.args.built.now in
    let from = c.args.from in
    let to = c.args.to in
    on_ok_weaker c.push_level.result
    (λ e. subst (λ o. IsUpTo (switched from (level_of built.wave) (level_of (wave_or_none o))) to c.push_level.new.self) c.in-None.ensures
    (subst (IsUpTo (switched from (level_of built.wave) (λ t. 0)) to) (sym e) (held_up_to built from to 0 c.next_time-next.ensures.form c.requires.later c.requires.some)))
    c.push_level.ensures.ok
