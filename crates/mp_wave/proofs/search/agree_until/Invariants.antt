use Rattle.std.proofs.Common.{◌-◌, length}
use Rattle.mp_wave.specs.WaveChanges.{changes_in}
use Rattle.mp_wave.proofs.DifferenceLemmas.{BeginAlike}
use Rattle.mp_wave.proofs.search.agree_until.Given as goal

-- the pairs so far are the same
abbrev pub invariant-loop-place : goal.invariant-loop-place
invariant-loop-place l = BeginAlike (changes_in l.one) (changes_in l.other) l.place

abbrev pub decreases-loop-place : goal.decreases-loop-place
decreases-loop-place l = length (changes_in l.one) - l.place
