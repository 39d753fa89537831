use Rattle.std.proofs.Common.{◌≡◌, take}
use Rattle.mp_near.proofs.region.likeness.are_changes.Given as goal

-- those so far are the same
abbrev pub invariant-loop-place : goal.invariant-loop-place
invariant-loop-place l = take l.place l.pairs ≡ take l.place l.wave.changes
