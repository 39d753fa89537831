use Rattle.std.proofs.Common.{◌-◌, drop}
use Rattle.mp_partition.specs.runs.Marks.{AreListed}
use Rattle.mp_engine.specs.region_runs.StateHistories.{AreKept}
use Rattle.mp_engine.proofs.region_runs.state_history.keep_states.Given as goal

-- the modules that have fired are among the rest
abbrev pub invariant-loop-id : goal.invariant-loop-id
invariant-loop-id l = record {
  kept : AreKept l.netlist l.time (l.time - 1) l.marks.items l.kept.items;
  listed : AreListed l.marks.items (drop l.id-index l.list);
}
