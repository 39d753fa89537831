use Rattle.mp_depend.specs.Drivers.{AreDriversBelow}
use Rattle.mp_depend.proofs.drivers.drivers_of.Given as goal

-- the ports of the modules so far are noted
abbrev pub invariant-loop-m : goal.invariant-loop-m
invariant-loop-m l = AreDriversBelow l.netlist l.m l.drivers.items
