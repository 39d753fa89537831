use Rattle.std.proofs.Common.{arith, subst}
use Rattle.std.proofs.lemmas.Result.{IfOk-weaker}
use Rattle.mp_wave.specs.Waveform.{level_of}
use Rattle.mp_active.specs.compare.Comparing.{old_wave}
use Rattle.mp_redo.specs.rerun.Splicing.{switched, IsWaveUpTo}
use Rattle.mp_redo.proofs.lemmas.rerun.SplicingLemmas.{spliced_is}
use Rattle.mp_redo.proofs.rerun.finishing.whole_wave.Goals as goal

pub returns : goal.returns
returns c =
    let new = c.args.change.now.new.now in
    let run = c.args.change.now.run.now in
    let from = c.args.from in
    let early = c.if-from-horizon.false in
    let horizon = c.horizon-horizon.ensures.value in
    let some = c.requires.some in
    IfOk-weaker c.spliced_wave.result _ _
    (λ wave is. spliced_is new run c.args.wire.0 from c.args.shown wave (omega (arith, early, horizon, some)) c.requires.stands (c.requires.spliced (omega (arith, early, horizon)))
    (subst (λ h. IsWaveUpTo (switched from (level_of c.args.shown) (level_of (old_wave run c.args.wire.0))) h wave) horizon is))
    c.spliced_wave.ensures
