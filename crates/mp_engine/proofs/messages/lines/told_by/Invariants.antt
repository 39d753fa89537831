use Rattle.std.proofs.Common.{◌≡◌, ◌<◌, ℕ, true, length}
use Rattle.mp_partition.specs.runs.Marks.{is_marked}
use Rattle.mp_partition.specs.regions.Regions.{partition_of}
use Rattle.mp_engine.proofs.messages.lines.told_by.Given as goal

-- the homes of the wires so far are marked
abbrev pub invariant-loop-w : goal.invariant-loop-w
invariant-loop-w l = record {
  places : length l.marks.items ≡ l.division.parts;
  marked : (v : ℕ) → v < l.w → is_marked l.heard v ≡ true → partition_of l.division.wires.items v < l.division.parts → is_marked l.marks.items (partition_of l.division.wires.items v) ≡ true;
}
