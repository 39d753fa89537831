use Rattle.std.proofs.Common.{◌≤◌, All, take}
use Rattle.mp_records.specs.declared.ports.Output.{Output}
use Rattle.mp_simulation.proofs.run.delays.longest_output.Given as goal

-- the longest so far
abbrev pub invariant-loop-output : goal.invariant-loop-output
invariant-loop-output l = record {
  first : l.first ≤ l.longest;
  each : All (λ (o : Output). o.delay ≤ l.longest) (take l.output-index l.outputs);
}
