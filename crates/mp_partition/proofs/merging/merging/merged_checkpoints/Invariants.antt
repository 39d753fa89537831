use Rattle.std.proofs.Common.{[], map, option_map, slice_index_or}
use Rattle.std.specs.Arc.{arc_value}
use Rattle.mp_netlist.specs.Slots.{slot_at}
use Rattle.mp_partition.specs.runs.Outcomes.{AreSlots}
use Rattle.mp_partition.specs.merging.PartRuns.{kept_in}
use Rattle.mp_partition.specs.regions.Regions.{partition_of}
use Rattle.mp_partition.proofs.merging.merging.merged_checkpoints.Given as goal

-- those so far
abbrev pub invariant-loop-m : goal.invariant-loop-m
invariant-loop-m l = AreSlots l.m (λ m. slot_at (slice_index_or (map kept_in l.runs) (partition_of l.division.homes.items m) []) m) (map (option_map arc_value) l.kept.items)
