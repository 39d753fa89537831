use Rattle.std.proofs.Common.{arith}
use Rattle.mp_wave.specs.WaveChanges.{changes_in}
use Rattle.mp_questions.proofs.lemmas.late.PlaceLemmas.{higher, lower, met}
use Rattle.mp_questions.proofs.late.change_counts.count_upto.Goals as goal
use Rattle.mp_questions.proofs.late.change_counts.count_upto.Goals.{then-time_at-time, else-time_at-time}

pub loop-low-preserved : goal.loop-low-preserved
loop-low-preserved c =
    let changes = changes_in c.args.changes in
    let between = c.place_between-place.ensures in
    let at = c.time_at.ensures in
    let bounds = c.loop-low.invariant in
    elim c.if-time_at-time.branch [
      | then-time_at-time w ↦
          rw (w.low-is, w.high-is)
          (higher changes c.requires c.args.time c.loop-low.low c.loop-low.high c.place_between-place.result bounds between.before between.from (omega (arith, at, w.if-time_at-time.true)))
      | else-time_at-time w ↦
          rw (w.low-is, w.high-is)
          (lower changes c.requires c.args.time c.loop-low.low c.loop-low.high c.place_between-place.result bounds between.before between.from (omega (arith, at, w.if-time_at-time.false)))
    ]

pub returns-clause-value : goal.returns-clause-value
returns-clause-value c = met (changes_in c.args.changes) c.args.time c.loop-low.low c.loop-low.high c.loop-low.invariant (omega (arith, c.loop-low-test.false))
