use Rattle.mp_partition.specs.runs.Outcomes.{AreSlots}
use Rattle.mp_partition.specs.runs.Runs.{end_memory}
use Rattle.mp_near.proofs.runs.before.all_ends.Given as goal

-- those so far
abbrev pub invariant-loop-k : goal.invariant-loop-k
invariant-loop-k l = AreSlots l.k (end_memory l.small.was) l.ends.items
