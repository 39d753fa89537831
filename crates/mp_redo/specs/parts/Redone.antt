-- What a change makes of each part of a netlist.
use Rattle.std.specs.Prelude.{◌≡◌, ℕ, ◌<◌, List, length, slice_index_or}
use Rattle.mp_partition.specs.runs.Runs.{IsRun}
use Rattle.mp_depend.specs.work.WorkSpans.{AreWorkSpans}
use Rattle.mp_redo.specs.declared.parts.parts_change.PartsChange.{PartsChange}
use Rattle.mp_redo.specs.declared.parts.redone.Redone.{Redone}
use Rattle.mp_redo.specs.parts.Changes.{old_part, new_part}

-- the run of the part after the change, and all work spans of its work
pub record IsRedone (change : PartsChange) (k : ℕ) (redone : Redone) : Type 0 where
  pub run : IsRun (new_part change k) redone.run
  pub work_spans : AreWorkSpans (old_part change k) (new_part change k) redone.work_spans.items

-- what the change makes of all parts
pub record AreRedone (change : PartsChange) (parts : List Redone) : Type 0 where
  pub places : length parts ≡ change.partition.now.division.parts
  pub each : (k : ℕ) (d : Redone) → k < change.partition.now.division.parts → IsRedone change k (slice_index_or parts k d)
