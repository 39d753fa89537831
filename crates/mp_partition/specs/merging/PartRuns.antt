-- What a part of a netlist gives, and what all parts give.
use Rattle.std.specs.Prelude.{◌≡◌, ℕ, ◌<◌, Bool, true, List, Option, map, option_map, length, slice_index_or}
use Rattle.std.specs.Arc.{arc_value}
use Rattle.mp_netlist.specs.Circuit.{Circuit}
use Rattle.mp_model.specs.Waves.{AreWavesOf}
use Rattle.mp_partition.specs.declared.runs.checkpoint.Checkpoint.{Checkpoint}
use Rattle.mp_partition.specs.runs.Outcomes.{AreSlots}
use Rattle.mp_partition.specs.runs.Runs.{end_memory, AreCheckpoints}
use Rattle.mp_partition.specs.regions.Regions.{region}
use Rattle.mp_partition.specs.regions.Divisions.{heard_by}
use Rattle.mp_partition.specs.declared.merging.part_run.PartRun.{PartRun}

abbrev pub kept_in : PartRun → List (Option (List Checkpoint))
kept_in run = map (option_map arc_value) run.kept.items

-- the waves of the wires, and if states are kept those of the modules, as far as they stand
pub record IsPartRun (n : Circuit) (keeps : Bool) (run : PartRun) : Type 0 where
  pub waves : AreWavesOf n run.waves
  pub ends : keeps ≡ true → AreSlots (length n.modules) (end_memory n) run.ends.items
  pub kept : keeps ≡ true → AreCheckpoints n (kept_in run)

-- the waves of the wires of each part
pub record HaveWaves (n : Circuit) (homes : List ℕ) (heards : List (List Bool)) (parts : ℕ) (runs : List PartRun) : Type 0 where
  pub places : length runs ≡ parts
  pub each : (k : ℕ) (d : PartRun) → k < parts → AreWavesOf (region n homes k (heard_by heards k)) (slice_index_or runs k d).waves

-- what all parts give
pub record AreRuns (n : Circuit) (homes : List ℕ) (heards : List (List Bool)) (parts : ℕ) (keeps : Bool) (runs : List PartRun) : Type 0 where
  pub places : length runs ≡ parts
  pub each : (k : ℕ) (d : PartRun) → k < parts → IsPartRun (region n homes k (heard_by heards k)) keeps (slice_index_or runs k d)
