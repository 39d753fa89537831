use Rattle.std.proofs.Common.{◌≡◌, take}
use Rattle.mp_partition.proofs.runs.states.ends_in_pieces.Given as goal

-- those so far
abbrev pub invariant-loop-end : goal.invariant-loop-end
invariant-loop-end l = l.list ≡ take l.end-index l.ends
