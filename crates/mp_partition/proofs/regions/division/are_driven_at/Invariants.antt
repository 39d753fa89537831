use Rattle.std.proofs.Common.{All, take}
use Rattle.mp_records.specs.declared.ports.Output.{Output}
use Rattle.mp_partition.specs.regions.Divisions.{IsDrivenAt}
use Rattle.mp_partition.proofs.regions.division.are_driven_at.Given as goal

-- those so far
abbrev pub invariant-loop-output : goal.invariant-loop-output
invariant-loop-output l = All (λ (output : Output). IsDrivenAt l.wires l.home output) (take l.output-index l.outputs)
