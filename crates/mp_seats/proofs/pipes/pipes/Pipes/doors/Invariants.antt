use Rattle.std.proofs.Common.{◌≡◌, take}
use Rattle.mp_seats.proofs.pipes.pipes.Pipes.doors.Given as goal

-- the doors so far
abbrev pub invariant-loop-place : goal.invariant-loop-place
invariant-loop-place l = l.doors.items ≡ take l.place l.seats
