use Rattle.std.proofs.Common.{◌≡◌, ◌≤◌, ◌-◌, length, take, drop}
use Rattle.mp_kernel.specs.events.Adding.{IsAdding, AreAdded}
use Rattle.mp_kernel.specs.events.Toggling.{entries_from}
use Rattle.mp_kernel.proofs.events.adding.add_fanout_events.Given as goal

-- the events of the wires before are added, and those of the others are still to be
abbrev pub invariant-loop-place : goal.invariant-loop-place
invariant-loop-place l = record {
  added : AreAdded l.fn.states.items l.states.items (entries_from l.rows (take l.place l.wires));
  adding : IsAdding l.states.items l.due.items (entries_from l.rows (drop l.place l.wires));
  places : length l.states.items ≡ length l.fn.states.items;
}

abbrev pub invariant-loop-from : goal.invariant-loop-from
invariant-loop-from l = record {
  added : AreAdded l.fn.states.items l.states.items (entries_from l.rows (take l.from l.wires));
  adding : IsAdding l.states.items l.due.items (entries_from l.rows (drop l.from l.wires));
  places : length l.states.items ≡ length l.fn.states.items;
  most : l.from ≤ length l.wires;
}

abbrev pub decreases-loop-from : goal.decreases-loop-from
decreases-loop-from l = length l.wires - l.from
