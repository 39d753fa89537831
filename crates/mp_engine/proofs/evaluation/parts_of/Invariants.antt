use Rattle.std.proofs.Common.{◌≡◌, ℕ, ◌<◌, [], length, slice_index_or}
use Rattle.mp_engine.specs.declared.lone_part.LonePart.{LonePart}
use Rattle.mp_partition.specs.regions.Regions.{region}
use Rattle.mp_engine.proofs.evaluation.parts_of.Given as goal

-- those so far
abbrev pub invariant-loop-part : goal.invariant-loop-part
invariant-loop-part l = record {
  places : length l.parts.items ≡ l.part;
  each : (k : ℕ) (d : LonePart) → k < l.part → (slice_index_or l.parts.items k d).region ≡ region l.divided.netlist.now l.divided.division.now.homes.items k [];
  same : (k : ℕ) (d : LonePart) → k < l.part → (slice_index_or l.parts.items k d).keeps ≡ l.divided.keeps;
}
