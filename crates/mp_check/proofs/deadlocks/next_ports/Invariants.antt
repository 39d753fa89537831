use Rattle.std.proofs.Common.{◌≡◌, ◌≤◌, All, map}
use Rattle.std.specs.List.{range_with_len}
use Rattle.mp_check.specs.Dead.{port_slots}
use Rattle.mp_check.specs.Deadlocks.{next_port}
use Rattle.mp_check.proofs.deadlocks.next_ports.Given as goal

-- those of the ports so far
abbrev pub invariant-loop-number : goal.invariant-loop-number
invariant-loop-number l = (l.next.items ≡ map (next_port l.ports.end.at.netlist.now) (range_with_len 0 l.number)) × All (λ k. k ≤ port_slots l.ports.end.at.netlist.now) l.next.items
