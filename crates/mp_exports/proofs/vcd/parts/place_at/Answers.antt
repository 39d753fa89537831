use Rattle.mp_wave.proofs.WaveformLemmas.{IsNonDecreasingBy-changes}
use Rattle.mp_exports.proofs.vcd.parts.place_at.Goals as goal

pub is_over-requires-clause-sorted : goal.is_over-requires-clause-sorted
is_over-requires-clause-sorted c = rw c.changes-changes.ensures.value (IsNonDecreasingBy-changes 0 c.args.wave.now.initial c.args.wave.now.changes c.changes-changes.ensures.form)

pub is_ahead-requires : goal.is_ahead-requires
is_ahead-requires c = rw c.changes-changes.ensures.value (IsNonDecreasingBy-changes 0 c.args.wave.now.initial c.args.wave.now.changes c.changes-changes.ensures.form)

pub is_ahead-requires-in-loop-low : goal.is_ahead-requires-in-loop-low
is_ahead-requires-in-loop-low c = rw c.changes-changes.ensures.value (IsNonDecreasingBy-changes 0 c.args.wave.now.initial c.args.wave.now.changes c.changes-changes.ensures.form)
