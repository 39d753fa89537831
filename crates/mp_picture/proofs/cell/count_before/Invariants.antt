use Rattle.std.proofs.Common.{◌≡◌, ℕ, ◌<◌, ◌≤◌, true, length, nat_lt}
use Rattle.mp_wave.specs.Faults.{pair_at}
use Rattle.mp_wave.specs.WaveChanges.{changes_in}
use Rattle.mp_picture.proofs.cell.count_before.Given as goal

-- the changes so far are before the time
abbrev pub invariant-loop-place : goal.invariant-loop-place
invariant-loop-place l = record {
  within : l.place ≤ length (changes_in l.changes);
  early : (k : ℕ) → k < l.place → nat_lt (pair_at (changes_in l.changes) k).0 l.time ≡ true;
}
