use Rattle.std.proofs.Common.{◌≡◌, ◌<◌, ℕ, false}
use Rattle.mp_partition.specs.runs.Marks.{is_marked}
use Rattle.mp_partition.specs.regions.Divisions.{heard_by}
use Rattle.mp_partition.proofs.regions.crossing.is_heard_anywhere.Given as goal

-- not by those so far
abbrev pub invariant-loop-heard : goal.invariant-loop-heard
invariant-loop-heard l = (k : ℕ) → k < l.heard-index → is_marked (heard_by l.heards k) l.wire.0 ≡ false
