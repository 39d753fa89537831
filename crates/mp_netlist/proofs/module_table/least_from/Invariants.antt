use Rattle.std.proofs.Common.{◌≡◌, take}
use Rattle.mp_netlist.specs.Least.{least_among}
use Rattle.mp_netlist.proofs.module_table.least_from.Given as goal

-- the least of the modules so far
abbrev pub invariant-loop-m : goal.invariant-loop-m
invariant-loop-m l = l.least.delay ≡ least_among (take l.m l.table)
