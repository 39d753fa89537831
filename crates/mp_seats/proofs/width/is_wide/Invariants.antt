use Rattle.std.proofs.Common.{◌≡◌, ◌+◌, ◌≤◌, length}
use Rattle.mp_seats.specs.Widths.{written_length}
use Rattle.mp_seats.proofs.width.is_wide.Given as goal

-- what was taken of the room is the length of what was left behind
abbrev pub invariant-loop-first : goal.invariant-loop-first
invariant-loop-first l = (l.room ≤ 65536) × (65536 + written_length l.rest ≡ l.room + written_length l.line)

abbrev pub decreases-loop-first : goal.decreases-loop-first
decreases-loop-first l = length l.rest
