use Rattle.std.proofs.Common.{All, take}
use Rattle.mp_records.specs.declared.ports.Input.{Input}
use Rattle.mp_partition.specs.regions.Divisions.{IsReadAt}
use Rattle.mp_partition.proofs.regions.division.are_read_at.Given as goal

-- those so far
abbrev pub invariant-loop-input : goal.invariant-loop-input
invariant-loop-input l = All (λ (input : Input). IsReadAt l.wires l.heard l.parts l.home input) (take l.input-index l.inputs)
