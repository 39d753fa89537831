-- What drives each wire, found module by module.
use Rattle.std.specs.Prelude.{◌≡◌, ◌⊎◌, ℕ, ◌<◌, List, Some, length, slice_index_or}
use Rattle.mp_records.specs.declared.ids.ModuleId.{ModuleId}
use Rattle.mp_records.specs.declared.ports.Output.{Output}
use Rattle.mp_records.specs.Outputs.{output_in}
use Rattle.mp_netlist.specs.declared.driver.Driver.{Driver}
use Rattle.mp_netlist.specs.declared.driver.Driver.TheVariants.{Nothing, Port}
use Rattle.mp_netlist.specs.Circuit.{Circuit, Drives, stimulus_at}
use Rattle.mp_netlist.specs.Drivers.{driver, stimulus_driver}

abbrev pub driver_in : List Driver → ℕ → Driver
driver_in drivers w = slice_index_or drivers w Nothing

-- they are the drivers of the wires, by number
abbrev pub AreDrivers : Circuit → List Driver → Type 0
AreDrivers n drivers = (w : ℕ) → driver_in drivers w ≡ driver n w

-- the wire's port among the first count of these outputs of the module m, if any, or else another driver
abbrev pub IsNoted : ModuleId → List Output → ℕ → ℕ → Driver → Driver → Type 0
IsNoted m outputs count w before after =
    ((p : ℕ) × (p < count) × ((output_in outputs p).wire ≡ Some (record { 0 = w })) × (after ≡ Port m p))
    ⊎ (((p : ℕ) → p < count → (output_in outputs p).wire ≡ Some (record { 0 = w }) → ⊥) × (after ≡ before))

-- of the modules below the number m the port that drives the wire, if any, or else what drives it without one
abbrev pub IsDriverBelow : Circuit → ℕ → ℕ → Driver → Type 0
IsDriverBelow n m w found =
    ((k p : ℕ) × Drives n k p w × (found ≡ Port (record { 0 = k }) p))
    ⊎ (((k p : ℕ) → k < m → Drives n k p w → ⊥) × (found ≡ stimulus_driver (stimulus_at n w)))

pub record AreDriversBelow (n : Circuit) (m : ℕ) (drivers : List Driver) : Type 0 where
  pub places : length drivers ≡ length n.wires
  pub each : (w : ℕ) → w < length n.wires → IsDriverBelow n m w (driver_in drivers w)
