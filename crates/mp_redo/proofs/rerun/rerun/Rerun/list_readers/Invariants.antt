use Rattle.std.proofs.Common.{◌≡◌, length, take}
use Rattle.mp_kernel.specs.events.Toggling.{entries_from}
use Rattle.mp_depend.specs.Hearing.{AreHearing}
use Rattle.mp_redo.specs.rerun.Reruns.{active_of}
use Rattle.mp_redo.proofs.rerun.rerun.Rerun.list_readers.Given as goal

-- the modules are listed that hear of the numbers so far
abbrev pub invariant-loop-place : goal.invariant-loop-place
invariant-loop-place l = record {
  kept : l.self ≡ record l.fn.self { activity = record (l.fn.self.activity) { joining = l.self.activity.joining } };
  hearing : AreHearing (active_of l.fn.self) (entries_from l.fn.self.simulation.bits.simulator.fanout (take l.place l.fn.self.comparison.departing.items)) l.self.activity.joining.items;
  end : l.place-end ≡ length l.fn.self.comparison.departing.items;
}
