use Rattle.std.proofs.Common.{◌≡◌, ◌<◌, ℕ, true}
use Rattle.mp_partition.specs.regions.Divisions.{IsHeardThere, heard_by}
use Rattle.mp_partition.specs.runs.Marks.{is_marked}
use Rattle.mp_partition.proofs.regions.division.are_heard_there.Given as goal

-- those so far
abbrev pub invariant-loop-part : goal.invariant-loop-part
invariant-loop-part l = (k w : ℕ) → k < l.part → is_marked (heard_by l.division.heard.items k) w ≡ true → IsHeardThere l.netlist l.division.wires.items k w
