-- Wires that modules outside of a region drive.
use Rattle.std.specs.Prelude.{◌≡◌, ℕ, ◌<◌, Bool, true, false, List, length, slice_index_or, if◌then◌else◌}
use Rattle.mp_records.specs.declared.ids.ModuleId.{ModuleId}
use Rattle.mp_netlist.specs.declared.driver.Driver.{Driver}
use Rattle.mp_netlist.specs.declared.driver.Driver.TheVariants.{Nothing, Stimulus, Port}
use Rattle.mp_netlist.specs.Circuit.{Circuit}
use Rattle.mp_netlist.specs.Drivers.{driver}
use Rattle.mp_partition.specs.runs.Marks.{is_marked}

-- the driver is a port of a module that isn't marked
abbrev pub is_outside : List Bool → Driver → Bool
is_outside modules Nothing = false
is_outside modules Stimulus = false
is_outside modules (Port m p) = if is_marked modules m.0 then false else true

-- those wires are given that a module drives which isn't marked
pub record AreGiven (new : Circuit) (modules : List Bool) (numbers : List ℕ) (given : List Bool) : Type 0 where
  pub places : length given ≡ length numbers
  pub outside : (k d : ℕ) → is_marked given k ≡ true → (m : ModuleId) × (p : ℕ) × (driver new (slice_index_or numbers k d) ≡ Port m p) × (is_marked modules m.0 ≡ false)
  pub inside : (k d p : ℕ) (m : ModuleId) → k < length numbers → is_marked given k ≡ false → driver new (slice_index_or numbers k d) ≡ Port m p → is_marked modules m.0 ≡ true
