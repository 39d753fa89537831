use Rattle.std.proofs.Common.{take}
use Rattle.mp_steady.specs.RunTimes.{AreTimes}
use Rattle.mp_steady.specs.WireSets.{numbers}
use Rattle.mp_steady.proofs.run_times.RunTimes.of.Given as goal

-- those of the wires so far
abbrev pub invariant-loop-wire : goal.invariant-loop-wire
invariant-loop-wire l = AreTimes l.set.of.netlist.now (numbers (take l.wire-index l.set.wires.now)) l.times
