use Rattle.std.proofs.Common.{◌≡◌, ◌-◌, ◌++◌}
use Rattle.mp_check.specs.Dead.{port_slots}
use Rattle.mp_check.specs.Deadlocks.{deadlock_from, waits_to}
use Rattle.mp_check.proofs.deadlocks.deadlock_from.Given as goal

-- what they wait for so far, and what the others do
abbrev pub invariant-loop : goal.invariant-loop
invariant-loop l = l.waits.items ++ waits_to l.fn.ports.end.at.netlist.now l.fn.first (port_slots l.fn.ports.end.at.netlist.now - l.counter) l.next ≡ deadlock_from l.fn.ports.end.at.netlist.now l.fn.first
