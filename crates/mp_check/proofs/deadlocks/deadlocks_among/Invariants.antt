use Rattle.std.proofs.Common.{◌≡◌, map, take}
use Rattle.mp_check.specs.Deadlocks.{deadlock_from}
use Rattle.mp_check.proofs.deadlocks.deadlocks_among.Given as goal

-- the deadlocks that begin with the ports so far
abbrev pub invariant-loop-first : goal.invariant-loop-first
invariant-loop-first l = l.found.items ≡ map (deadlock_from l.ports.end.at.netlist.now) (take l.first-index l.first-items)
