use Rattle.std.proofs.Common.{ℕ, ◌<◌}
use Rattle.mp_redo.specs.parts.Drivers.{HasDelay}
use Rattle.mp_redo.proofs.parts.least.have_delay.Given as goal

-- those so far
abbrev pub invariant-loop-part : goal.invariant-loop-part
invariant-loop-part l = (k : ℕ) → k < l.part → HasDelay l.netlist l.homes k l.delay
