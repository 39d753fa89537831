use Rattle.std.proofs.Common.{◌≡◌, take}
use Rattle.mp_records.proofs.changes.Changes.to_stimulus.Given as goal

-- the pairs so far
abbrev pub invariant-loop-time : goal.invariant-loop-time
invariant-loop-time l = l.pairs.items ≡ take l.time-index l.time-items
