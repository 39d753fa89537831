use Rattle.std.proofs.Common.{◌≡◌, ◌<◌, ℕ, length}
use Rattle.mp_depend.specs.Drivers.{driver_in, IsNoted}
use Rattle.mp_depend.proofs.drivers.note_ports.Given as goal

-- the ports so far are noted
abbrev pub invariant-loop-port : goal.invariant-loop-port
invariant-loop-port l = record {
  places : length l.drivers.items ≡ length l.fn.drivers.items;
  noted : (w : ℕ) → w < length l.fn.drivers.items → IsNoted l.id l.outputs l.port w (driver_in l.fn.drivers.items w) (driver_in l.drivers.items w);
}
