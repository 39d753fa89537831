use Rattle.std.proofs.Common.{take}
use Rattle.mp_kernel.specs.events.Toggling.{AreToggled}
use Rattle.mp_kernel.proofs.events.wave_table.WaveTable.toggle.Given as goal

-- the wires before have toggled
abbrev pub invariant-loop-wire : goal.invariant-loop-wire
invariant-loop-wire l = AreToggled l.fn.self l.self (take l.wire-index l.wires) l.time
