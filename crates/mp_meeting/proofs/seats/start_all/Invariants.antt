use Rattle.std.proofs.Common.{◌≡◌, map}
use Rattle.mp_meeting.specs.Sittings.{begun}
use Rattle.mp_meeting.proofs.seats.start_all.Given as goal

-- those who sat down so far
abbrev pub invariant-loop-me : goal.invariant-loop-me
invariant-loop-me g l = l.sittings.items ≡ map begun l.yielded
