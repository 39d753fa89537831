use Rattle.std.proofs.Common.{◌≡◌, ℕ, ◌<◌, true}
use Rattle.mp_netlist.specs.Circuit.{module_at}
use Rattle.mp_simulation.specs.run.Narrow.{has_bit_module}
use Rattle.mp_simulation.proofs.run.narrow.has_bit_modules.Given as goal

-- the modules so far have width 1
abbrev pub invariant-loop-m : goal.invariant-loop-m
invariant-loop-m l = (k : ℕ) → k < l.m → has_bit_module l.netlist (module_at l.netlist k) ≡ true
