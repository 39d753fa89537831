use Rattle.std.proofs.Common.{◌≡◌}
use Rattle.mp_commands.specs.views.AskedWires.{all_wires}
use Rattle.mp_commands.proofs.views.asked_wires.all_wires.Given as goal

-- the wires of the slots so far
abbrev pub invariant-loop-number : goal.invariant-loop-number
invariant-loop-number l = l.wires.items ≡ all_wires l.number
