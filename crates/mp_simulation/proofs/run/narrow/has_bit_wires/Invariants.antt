use Rattle.std.proofs.Common.{◌≡◌, ℕ, ◌<◌, true}
use Rattle.mp_netlist.specs.Circuit.{wire_at}
use Rattle.mp_simulation.specs.run.Narrow.{has_one_bit}
use Rattle.mp_simulation.proofs.run.narrow.has_bit_wires.Given as goal

-- the wires so far have width 1
abbrev pub invariant-loop-w : goal.invariant-loop-w
invariant-loop-w l = (k : ℕ) → k < l.w → has_one_bit (wire_at l.netlist k) ≡ true
