use Rattle.std.proofs.Common.{◌≡◌, ◌++◌, drop}
use Rattle.mp_engine.specs.messages.Messages.{toggles_told}
use Rattle.mp_engine.proofs.messages.message.add_toggles.Given as goal

-- what is left gives the rest
abbrev pub invariant-loop-wire : goal.invariant-loop-wire
invariant-loop-wire l = l.changes.items ++ toggles_told l.heard l.time (drop l.wire-index l.wires) ≡ l.fn.changes.items ++ toggles_told l.heard l.time l.wires
