-- Ports that wait for each other's wires.
use Rattle.std.specs.Prelude.{ℕ, ◌==◌, List, [], ◌∷◌, map, filter, Option, Some, None, zero, suc, if◌then◌else◌}
use Rattle.std.specs.List.{range_with_len}
use Rattle.mp_netlist.specs.Circuit.{Circuit}
use Rattle.mp_check.specs.Dead.{port_slots}
use Rattle.mp_check.specs.Waiting.{wait_of}
use Rattle.mp_check.specs.Ways.{begins_round}
use Rattle.mp_check.specs.declared.wait.Wait.{Wait}

-- the port whose wire is waited for, or else the number that stands for none
abbrev pub port_after : ℕ → Option Wait → ℕ
port_after none None = none
port_after none (Some w) = w.next

abbrev pub next_port : Circuit → ℕ → ℕ
next_port n k = port_after (port_slots n) (wait_of n k)

-- what ports wait for, one after the other, until they come round to a first one: at most so many
abbrev pub waits_to : Circuit → ℕ → ℕ → Option Wait → List Wait
waits_to n first zero next = []
waits_to n first (suc count) None = []
waits_to n first (suc count) (Some w) = w ∷ (if w.next == first then [] else waits_to n first count (wait_of n w.next))

abbrev pub deadlock_from : Circuit → ℕ → List Wait
deadlock_from n k = waits_to n k (port_slots n) (wait_of n k)

-- each cycle of ports that wait for each other's wires, by its least port
unfoldable pub deadlocks : Circuit → List (List Wait)
deadlocks n = map (deadlock_from n) (filter (begins_round (next_port n) (port_slots n)) (range_with_len 0 (port_slots n)))
