use Rattle.std.proofs.Common.{◌≡◌, take}
use Rattle.mp_commands.specs.views.AskedWires.{named_wires}
use Rattle.mp_commands.proofs.views.asked_wires.named_wires.Given as goal

-- the wires of the names so far
abbrev pub invariant-loop-name : goal.invariant-loop-name
invariant-loop-name l = l.wires.items ≡ named_wires l.netlist (take l.name-index l.names)
