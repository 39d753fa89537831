use Rattle.std.proofs.Common.{◌≡◌, ℕ, true, None, take}
use Rattle.mp_netlist.specs.Around.{is_in}
use Rattle.mp_netlist.specs.Slots.{slot_at}
use Rattle.mp_netlist.specs.Drivers.{port_of}
use Rattle.mp_netlist.proofs.module_table.ModuleTable.port_among.Given as goal

-- none of the modules so far drives the wire
abbrev pub invariant-loop-m : goal.invariant-loop-m
invariant-loop-m l = (k : ℕ) → is_in k (take l.m-index l.modules) ≡ true → port_of (slot_at l.self k) l.wire.0 ≡ None
