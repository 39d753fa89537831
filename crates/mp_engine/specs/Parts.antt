-- The parts of a divided netlist as tasks.
use Rattle.std.specs.Prelude.{◌≡◌, ℕ, ◌<◌, Bool, List, [], length, slice_index_or}
use Rattle.mp_netlist.specs.Circuit.{Circuit}
use Rattle.mp_partition.specs.regions.Regions.{region}
use Rattle.mp_engine.specs.declared.lone_part.LonePart.{LonePart}

-- a task for each part, which hears of nothing, and whether it keeps states
pub record AreParts (n : Circuit) (homes : List ℕ) (parts : ℕ) (keeps : Bool) (tasks : List LonePart) : Type 0 where
  pub places : length tasks ≡ parts
  pub each : (k : ℕ) (d : LonePart) → k < parts → (slice_index_or tasks k d).region ≡ region n homes k []
  pub same : (k : ℕ) (d : LonePart) → k < parts → (slice_index_or tasks k d).keeps ≡ keeps
