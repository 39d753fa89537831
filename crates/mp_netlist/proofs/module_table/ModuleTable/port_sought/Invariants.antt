use Rattle.std.proofs.Common.{◌≡◌, ℕ, ◌<◌, None}
use Rattle.mp_netlist.specs.Slots.{slot_at}
use Rattle.mp_netlist.specs.Drivers.{port_of}
use Rattle.mp_netlist.proofs.module_table.ModuleTable.port_sought.Given as goal

-- no module so far drives the wire
abbrev pub invariant-loop-m : goal.invariant-loop-m
invariant-loop-m l = (k : ℕ) → k < l.m → port_of (slot_at l.self k) l.wire.0 ≡ None
