use Rattle.mp_simulation.specs.run.Wirings.{AreUnread}
use Rattle.mp_simulation.proofs.run.wiring.unread_wires.Given as goal

-- the wires so far
abbrev pub invariant-loop-wire : goal.invariant-loop-wire
invariant-loop-wire l = AreUnread l.wire l.wiring
