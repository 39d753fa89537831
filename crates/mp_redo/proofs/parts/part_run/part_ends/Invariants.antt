use Rattle.mp_partition.specs.runs.Outcomes.{AreSlots}
use Rattle.mp_partition.specs.runs.Runs.{end_memory}
use Rattle.mp_redo.specs.parts.Changes.{old_part}
use Rattle.mp_redo.proofs.parts.part_run.part_ends.Given as goal

-- those so far
abbrev pub invariant-loop-m : goal.invariant-loop-m
invariant-loop-m l = AreSlots l.m (end_memory (old_part l.change l.part)) l.ends.items
