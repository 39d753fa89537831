use Rattle.std.proofs.Common.{take}
use Rattle.mp_partition.specs.runs.Marks.{AreAdded}
use Rattle.mp_engine.specs.region_runs.StateHistories.{ids_of}
use Rattle.mp_engine.proofs.region_runs.state_history.mark_numbers.Given as goal

-- the modules so far are marked
abbrev pub invariant-loop-number : goal.invariant-loop-number
invariant-loop-number l = AreAdded (ids_of (take l.number-index l.numbers)) l.fn.marks.items l.marks.items l.fn.due.items l.due.items
