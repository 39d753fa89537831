use Rattle.std.proofs.Common.{◌≡◌}
use Rattle.mp_meeting.proofs.reading.read_open.Given as goal

-- what was learnt stays, and so does what was read last
abbrev pub invariant-loop : goal.invariant-loop
invariant-loop g l =
    (goal.iterator-loop g).can_next l.iterator' × (goal.iterator-loop g).is_finite l.iterator' × (l.viewer.learnt ≡ l.initial.viewer.learnt) × (l.viewer.last ≡ l.initial.viewer.last)
    × (l.viewer.signed ≡ l.initial.viewer.signed)
