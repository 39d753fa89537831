use Rattle.std.proofs.Common.{◌≡◌, map, take}
use Rattle.mp_records.specs.declared.ports.Input.{Input}
use Rattle.mp_check.specs.Over.{greatest}
use Rattle.mp_check.proofs.over.longest_of.Given as goal

-- that of the inputs so far
abbrev pub invariant-loop-input : goal.invariant-loop-input
invariant-loop-input l = l.longest ≡ greatest (map (λ (i : Input). i.delay) (take l.input-index l.inputs))
