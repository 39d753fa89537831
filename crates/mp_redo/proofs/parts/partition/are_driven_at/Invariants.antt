use Rattle.std.proofs.Common.{All, take}
use Rattle.mp_records.specs.declared.ports.Input.{Input}
use Rattle.mp_redo.specs.parts.Drivers.{IsReadFrom}
use Rattle.mp_redo.proofs.parts.partition.are_driven_at.Given as goal

-- those so far
abbrev pub invariant-loop-input : goal.invariant-loop-input
invariant-loop-input l = All (λ (input : Input). IsReadFrom l.drivers l.homes l.home input) (take l.input-index l.inputs)
