use Rattle.std.proofs.Common.{◌≤◌, length}
use Rattle.mp_wave.specs.WaveChanges.{changes_in}
use Rattle.mp_active.proofs.compare.nearby.step_back.Given as goal

-- the place is one of the changes
abbrev pub invariant-loop : goal.invariant-loop
invariant-loop l = l.at ≤ length (changes_in l.changes)
