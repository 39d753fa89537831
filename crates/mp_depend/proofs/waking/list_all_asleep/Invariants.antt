use Rattle.std.proofs.Common.{List, ◌++◌, take}
use Rattle.mp_kernel.specs.declared.events.fanout_entry.FanoutEntry.{FanoutEntry}
use Rattle.mp_partition.specs.runs.Marks.{is_marked}
use Rattle.mp_depend.specs.Hearing.{AreHearing}
use Rattle.mp_depend.proofs.waking.list_all_asleep.Given as goal

abbrev pub invariant-loop-entry : goal.invariant-loop-entry
invariant-loop-entry l =
    (before : List FanoutEntry) → AreHearing (is_marked l.active) before l.fn.joining.items → AreHearing (is_marked l.active) (before ++ take l.entry-index l.entries) l.joining.items
