-- Which modules drive the wires of a part.
use Rattle.std.specs.Prelude.{◌≡◌, ℕ, Bool, true, false, List, Some}
use Rattle.mp_records.specs.declared.ids.ModuleId.{ModuleId}
use Rattle.mp_records.specs.declared.ports.Input.{Input}
use Rattle.mp_records.specs.declared.ports.Output.{Output}
use Rattle.mp_records.specs.Outputs.{output_in, delay_of}
use Rattle.mp_netlist.specs.declared.driver.Driver.{Driver}
use Rattle.mp_netlist.specs.declared.driver.Driver.TheVariants.{Port}
use Rattle.mp_netlist.specs.Circuit.{Circuit, Drives}
use Rattle.mp_depend.specs.Drivers.{driver_in}
use Rattle.mp_partition.specs.regions.Regions.{partition_of}

-- a module that drives the wire of an input, by these drivers of all wires, is at home here
abbrev pub IsReadFrom : List Driver → List ℕ → ℕ → Input → Type 0
IsReadFrom drivers homes home input = (id : ModuleId) (p : ℕ) → driver_in drivers input.wire.0 ≡ Port id p → partition_of homes id.0 ≡ home

-- the output drives a wire after the delay
pub record IsAfter (output : Output) (delay : ℕ) : Type 0 where
  pub wire : ℕ
  pub at : output.wire ≡ Some (record { 0 = wire })
  pub same : output.delay ≡ delay

-- one of the outputs does
pub record HasOutput (outputs : List Output) (delay : ℕ) : Type 0 where
  pub port : ℕ
  pub wire : ℕ
  pub output : (output_in outputs port).wire ≡ Some (record { 0 = wire })
  pub same : (output_in outputs port).delay ≡ delay

-- a port of the module drives a wire after the delay
pub record DrivesAfter (n : Circuit) (m delay : ℕ) : Type 0 where
  pub port : ℕ
  pub wire : ℕ
  pub drives : Drives n m port wire
  pub same : delay_of drives.part port ≡ delay

-- so does a module of the part
pub record HasDelay (n : Circuit) (homes : List ℕ) (k delay : ℕ) : Type 0 where
  pub part : ℕ
  pub home : partition_of homes part ≡ k
  pub after : DrivesAfter n part delay

-- whether a module of another part drives the wire, by these drivers of all wires
pub record TellsElsewhere (drivers : List Driver) (homes : List ℕ) (k w : ℕ) (answer : Bool) : Type 0 where
  pub elsewhere : answer ≡ true → (id : ModuleId) × (p : ℕ) × (driver_in drivers w ≡ Port id p) × (partition_of homes id.0 ≡ k → ⊥)
  pub within : answer ≡ false → (id : ModuleId) (p : ℕ) → driver_in drivers w ≡ Port id p → partition_of homes id.0 ≡ k
