use Rattle.std.proofs.Common.{◌≤◌, All, take}
use Rattle.mp_records.specs.declared.ports.Input.{Input}
use Rattle.mp_simulation.proofs.run.delays.longest_input.Given as goal

-- the longest so far
abbrev pub invariant-loop-input : goal.invariant-loop-input
invariant-loop-input l = record {
  first : l.first ≤ l.longest;
  each : All (λ (i : Input). i.delay ≤ l.longest) (take l.input-index l.inputs);
}
