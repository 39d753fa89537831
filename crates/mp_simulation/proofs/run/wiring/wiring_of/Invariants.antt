use Rattle.mp_simulation.specs.run.Wirings.{AreWiredInputs}
use Rattle.mp_simulation.proofs.run.wiring.wiring_of.Given as goal

-- the modules so far read their inputs
abbrev pub invariant-loop-m : goal.invariant-loop-m
invariant-loop-m l = AreWiredInputs l.netlist l.m l.wiring l.inputs.items
