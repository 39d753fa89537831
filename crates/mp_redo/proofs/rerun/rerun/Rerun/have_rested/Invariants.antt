use Rattle.std.proofs.Common.{ℕ, ◌<◌, slice_index_or}
use Rattle.mp_records.specs.declared.ports.Input.{Input}
use Rattle.mp_redo.specs.rerun.Resting.{HasRested}
use Rattle.mp_redo.proofs.rerun.rerun.Rerun.have_rested.Given as goal

-- what was at the first inputs has rested
abbrev pub invariant-loop-port : goal.invariant-loop-port
invariant-loop-port l = (k : ℕ) (d : Input) → k < l.port → HasRested l.change.run.now l.from l.to (slice_index_or l.inputs k d)
