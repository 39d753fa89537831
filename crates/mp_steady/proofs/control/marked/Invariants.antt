use Rattle.std.proofs.Common.{◌≡◌, filter}
use Rattle.std.specs.List.{range_with_len}
use Rattle.mp_steady.specs.Reaching.{mark_at}
use Rattle.mp_steady.specs.WireSets.{numbers}
use Rattle.mp_steady.proofs.control.marked.Given as goal

-- those of the numbers so far
abbrev pub invariant-loop-number : goal.invariant-loop-number
invariant-loop-number l = numbers l.found.items ≡ filter (mark_at l.marks) (range_with_len 0 l.number)
