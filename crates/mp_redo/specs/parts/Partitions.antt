-- The parts in which a change of a netlist is evaluated again.
use Rattle.std.specs.Prelude.{◌≡◌, ℕ, ◌<◌, []}
use Rattle.mp_netlist.specs.Circuit.{Circuit}
use Rattle.mp_netlist.specs.Delays.{least_delay}
use Rattle.mp_depend.specs.Drivers.{AreDrivers}
use Rattle.mp_partition.specs.regions.Divisions.{IsDivision}
use Rattle.mp_redo.specs.apart.Parts.{part_of, AreUnconnected}
use Rattle.mp_redo.specs.declared.parts.partition.Partition.{Partition}

-- the new netlist is divided, and no part hears of another; no wire of the old one connects two of these parts; what drives each of its wires is
-- known; and each part has the least delay of the new netlist
pub record IsPartition (old new : Circuit) (partition : Partition) : Type 0 where
  pub division : IsDivision new partition.division.homes.items partition.division.wires.items [] partition.division.parts
  pub unconnected : AreUnconnected old partition.division.homes.items
  pub drivers : AreDrivers old partition.old_drivers.items
  pub least : (k : ℕ) → k < partition.division.parts → least_delay (part_of new partition.division.homes.items k) ≡ least_delay new
