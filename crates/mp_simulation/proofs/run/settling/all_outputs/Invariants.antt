use Rattle.std.proofs.Common.{◌≡◌, map, take}
use Rattle.mp_simulation.specs.run.Settling.{ports_of}
use Rattle.mp_simulation.proofs.run.settling.all_outputs.Given as goal

-- those so far
abbrev pub invariant-loop-m : goal.invariant-loop-m
invariant-loop-m l = l.ports.items ≡ map ports_of (take l.m l.netlist.modules)
