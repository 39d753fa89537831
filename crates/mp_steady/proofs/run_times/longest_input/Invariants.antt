use Rattle.std.proofs.Common.{◌≡◌, map, take}
use Rattle.std.specs.Prelude.{max}
use Rattle.std.specs.List.{fold}
use Rattle.mp_records.specs.declared.ports.Input.{Input}
use Rattle.mp_steady.proofs.run_times.longest_input.Given as goal

-- that of the inputs so far
abbrev pub invariant-loop-input : goal.invariant-loop-input
invariant-loop-input l = l.longest ≡ fold max 0 (map (λ (i : Input). i.delay) (take l.input-index l.inputs))
