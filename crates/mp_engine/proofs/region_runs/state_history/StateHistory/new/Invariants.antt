use Rattle.std.proofs.Common.{◌≡◌, ℕ, ◌<◌, true, length}
use Rattle.mp_partition.specs.runs.Marks.{is_marked, AreListed}
use Rattle.mp_engine.proofs.region_runs.state_history.StateHistory.new.Given as goal

-- the modules so far are marked
abbrev pub invariant-loop-m : goal.invariant-loop-m
invariant-loop-m l = record {
  places : length l.marks.items ≡ length l.netlist.modules;
  marked : (k : ℕ) → k < l.m → is_marked l.marks.items k ≡ true;
  listed : AreListed l.marks.items l.list.items;
}
