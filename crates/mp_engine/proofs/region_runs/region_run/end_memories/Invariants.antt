use Rattle.mp_partition.specs.runs.Outcomes.{AreSlots}
use Rattle.mp_partition.specs.runs.Runs.{end_memory}
use Rattle.mp_engine.proofs.region_runs.region_run.end_memories.Given as goal

-- those so far
abbrev pub invariant-loop-m : goal.invariant-loop-m
invariant-loop-m l = AreSlots l.m (end_memory l.netlist) l.ends.items
