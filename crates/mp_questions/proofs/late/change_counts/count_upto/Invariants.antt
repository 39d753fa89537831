use Rattle.std.proofs.Common.{◌-◌}
use Rattle.mp_wave.specs.WaveChanges.{changes_in}
use Rattle.mp_questions.proofs.lemmas.late.PlaceLemmas.{Bounds}
use Rattle.mp_questions.proofs.late.change_counts.count_upto.Given as goal

-- the place lies between the two
abbrev pub invariant-loop-low : goal.invariant-loop-low
invariant-loop-low l = Bounds (changes_in l.changes) l.time l.low l.high

abbrev pub decreases-loop-low : goal.decreases-loop-low
decreases-loop-low l = l.high - l.low
