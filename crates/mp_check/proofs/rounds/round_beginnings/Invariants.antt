use Rattle.std.proofs.Common.{◌≡◌, filter, length}
use Rattle.std.specs.List.{range_with_len}
use Rattle.mp_check.specs.Ways.{begins_round}
use Rattle.mp_check.specs.Doubling.{next_in}
use Rattle.mp_check.proofs.rounds.round_beginnings.Given as goal

-- those of the numbers so far
abbrev pub invariant-loop-number : goal.invariant-loop-number
invariant-loop-number l = l.found.items ≡ filter (begins_round (next_in l.next) (length l.next)) (range_with_len 0 l.number)
