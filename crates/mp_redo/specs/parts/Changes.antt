-- A change of a netlist that is divided.
use Rattle.std.specs.Prelude.{ℕ, List}
use Rattle.mp_netlist.specs.Circuit.{Circuit, IsCircuit}
use Rattle.mp_partition.specs.runs.Runs.{IsRun}
use Rattle.mp_depend.specs.work.Revisions.{IsRevision}
use Rattle.mp_redo.specs.apart.Parts.{part_of}
use Rattle.mp_redo.specs.declared.parts.parts_change.PartsChange.{PartsChange}
use Rattle.mp_redo.specs.parts.Partitions.{IsPartition}

-- a netlist was changed, its run is known, and both netlists fall into the same parts
pub record IsChange (change : PartsChange) : Type 0 where
  pub old : IsCircuit change.old.now
  pub new : IsCircuit change.new.now
  pub revision : IsRevision change.old.now change.new.now
  pub run : IsRun change.old.now change.run.now
  pub partition : IsPartition change.old.now change.new.now change.partition.now

-- where each module is at home
abbrev pub homes_in : PartsChange → List ℕ
homes_in change = change.partition.now.division.homes.items

-- a part of the netlist before the change
abbrev pub old_part : PartsChange → ℕ → Circuit
old_part change k = part_of change.old.now (homes_in change) k

-- and after it
abbrev pub new_part : PartsChange → ℕ → Circuit
new_part change k = part_of change.new.now (homes_in change) k
