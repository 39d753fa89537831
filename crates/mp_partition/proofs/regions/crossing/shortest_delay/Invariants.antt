use Rattle.std.proofs.Common.{All, take}
use Rattle.mp_records.specs.declared.ports.Output.{Output}
use Rattle.mp_partition.specs.regions.Divisions.{IsLateFor}
use Rattle.mp_partition.proofs.regions.crossing.shortest_delay.Given as goal

-- that of the outputs so far
abbrev pub invariant-loop-output : goal.invariant-loop-output
invariant-loop-output l = All (λ (output : Output). IsLateFor l.heards output l.delay) (take l.output-index l.outputs)
