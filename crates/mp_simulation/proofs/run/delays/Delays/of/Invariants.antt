use Rattle.std.proofs.Common.{◌<◌}
use Rattle.mp_simulation.specs.run.Delays.{AreWithin}
use Rattle.mp_simulation.proofs.run.delays.Delays.of.Given as goal

-- the longest so far
abbrev pub invariant-loop-m : goal.invariant-loop-m
invariant-loop-m l = record {
  within : AreWithin l.netlist l.m l.longest;
  outputs : 0 < l.longest.outputs;
  inputs : 0 < l.longest.inputs;
}
