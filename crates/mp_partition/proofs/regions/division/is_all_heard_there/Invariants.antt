use Rattle.std.proofs.Common.{◌≡◌, ◌<◌, ℕ, true}
use Rattle.mp_partition.specs.regions.Divisions.{IsHeardThere}
use Rattle.mp_partition.specs.runs.Marks.{is_marked}
use Rattle.mp_partition.proofs.regions.division.is_all_heard_there.Given as goal

-- those so far
abbrev pub invariant-loop-w : goal.invariant-loop-w
invariant-loop-w l = (w : ℕ) → w < l.w → is_marked l.heard w ≡ true → IsHeardThere l.netlist l.wires l.part w
