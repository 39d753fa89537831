use Rattle.std.proofs.Common.{arith}
use Rattle.mp_wave.proofs.WaveChangesLemmas.{pairs_next, pairs_over}
use Rattle.mp_wave.proofs.pairs.short_pairs_of.Goals as goal

pub loop-time-preserved : goal.loop-time-preserved
loop-time-preserved c =
    pairs_next c.args.level c.loop-time.present c.saturating_sub-present.result c.loop-time.time-index c.args.times.now c.loop-time.pairs.items c.push.new.self.items
    c.loop-time-test.true c.saturating_sub-present.ensures c.in_ok-push.ensures.items c.loop-time.invariant

pub returns : goal.returns
returns c = pairs_over c.args.level c.loop-time.present c.loop-time.time-index c.args.times.now c.loop-time.pairs.items (omega (arith, c.loop-time-test.false)) c.loop-time.invariant
