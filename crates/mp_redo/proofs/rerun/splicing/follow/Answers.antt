use Rattle.std.proofs.Common.{◌+◌, arith}
use Rattle.std.proofs.lemmas.Result.{on_ok_weaker}
use Rattle.mp_model.proofs.HeldLemmas.{AreTimesIn-longer}
use Rattle.mp_wave.specs.WaveChanges.{changes_in}
use Rattle.mp_wave.specs.Waveform.{between}
use Rattle.mp_redo.proofs.lemmas.rerun.SplicingLemmas.{times_between, followed_as}
use Rattle.mp_redo.proofs.rerun.splicing.follow.Goals as goal

pub hold_all-requires : goal.hold_all-requires
hold_all-requires c =
    let wave = c.args.wave.now in
    let from = c.args.from in
    let to = c.args.to in
    rw (c.in_ok-push_level.ensures.ok, c.changes_between.ensures.value)
    (AreTimesIn-longer (from + 1) to 4294967295 (between from to wave.changes) (omega arith) (times_between wave from to c.changes_between.ensures.form c.requires.some))

pub returns : goal.returns
returns c =
    on_ok_weaker c.hold_all.result
    (followed_as c.args.built.now c.push_level.new.self c.hold_all.new.built c.args.wave.now c.args.from c.args.to c.level_at.result (changes_in c.changes_between.result)
    c.next_time-next.ensures.form c.changes_between.ensures.form c.requires.later c.requires.some
    c.in_ok-push_level.ensures.ok c.level_at.ensures.value c.changes_between.ensures.value)
    c.hold_all.ensures
