use Rattle.mp_wave.proofs.WaveformLemmas.{IsNonDecreasingBy-changes}
use Rattle.mp_wave.proofs.wave.Wave.changes_between.Goals as goal

pub later_than-requires : goal.later_than-requires
later_than-requires c =
    rw c.changes.ensures.value (IsNonDecreasingBy-changes 0 c.args.self.now.initial c.args.self.now.changes c.changes.ensures.form)
