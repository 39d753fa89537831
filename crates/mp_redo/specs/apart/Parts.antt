-- A part of a netlist as a netlist of its own: it has all wires, and the modules that are at home in the part.
use Rattle.std.specs.Prelude.{◌≡◌, ◌⊎◌, ℕ, false, List, [], None, length}
use Rattle.mp_records.specs.declared.ids.ModuleId.{ModuleId}
use Rattle.mp_netlist.specs.declared.driver.Driver.TheVariants.{Nothing, Port}
use Rattle.mp_netlist.specs.Circuit.{Circuit, IsCircuit, Drives, wire_at, module_at}
use Rattle.mp_netlist.specs.Drivers.{driver, is_port}
use Rattle.mp_partition.specs.regions.Readers.{Reads}
use Rattle.mp_partition.specs.regions.Regions.{partition_of, region}
use Rattle.mp_partition.specs.regions.Divisions.{IsDivision}

-- the netlist of a part, which hears of no other
abbrev pub part_of : Circuit → List ℕ → ℕ → Circuit
part_of n homes k = region n homes k []

-- no wire connects modules of two parts: what reads a wire is at home with what drives it
abbrev pub AreUnconnected : Circuit → List ℕ → Type 0
AreUnconnected n homes = (m w q p : ℕ) → Reads n m w → Drives n q p w → partition_of homes m ≡ partition_of homes q

-- no module of another part drives the wire
abbrev pub IsDrivenWithin : Circuit → List ℕ → ℕ → ℕ → Type 0
IsDrivenWithin n homes k w = (m p : ℕ) → Drives n m p w → partition_of homes m ≡ k

-- a module of another part drives the wire
pub record IsDrivenElsewhere (n : Circuit) (homes : List ℕ) (k w : ℕ) : Type 0 where
  pub part : ℕ
  pub port : ℕ
  pub drives : Drives n part port w
  pub elsewhere : partition_of homes part ≡ k → ⊥

-- the parts of a division in which none hears of another are unconnected
abbrev pub DivisionsAreUnconnected : Type 0
DivisionsAreUnconnected = (n : Circuit) (homes wires : List ℕ) (parts : ℕ) → IsDivision n homes wires [] parts → AreUnconnected n homes

-- a wire is driven elsewhere or not
abbrev pub WiresAreEither : Type 0
WiresAreEither = (n : Circuit) (homes : List ℕ) (k w : ℕ) → IsCircuit n → IsDrivenWithin n homes k w ⊎ IsDrivenElsewhere n homes k w

-- a wire that no port drives isn't driven elsewhere
abbrev pub UndrivenAreWithin : Type 0
UndrivenAreWithin = (n : Circuit) (homes : List ℕ) (k w : ℕ) → IsCircuit n → is_port (driver n w) ≡ false → IsDrivenWithin n homes k w

-- a wire is driven in the part of its driver
abbrev pub DrivenAreAtHome : Type 0
DrivenAreAtHome = (n : Circuit) (homes : List ℕ) (w p : ℕ) (m : ModuleId) → IsCircuit n → driver n w ≡ Port m p → IsDrivenWithin n homes (partition_of homes m.0) w

-- a part has all wires
abbrev pub PartsHaveWires : Type 0
PartsHaveWires = (n : Circuit) (homes : List ℕ) (k w : ℕ) → wire_at (part_of n homes k) w ≡ wire_at n w

-- and the modules that are at home there
abbrev pub PartsHaveModules : Type 0
PartsHaveModules = (n : Circuit) (homes : List ℕ) (k m : ℕ) → partition_of homes m ≡ k → module_at (part_of n homes k) m ≡ module_at n m

-- and no others
abbrev pub PartsHaveNoOthers : Type 0
PartsHaveNoOthers = (n : Circuit) (homes : List ℕ) (k m : ℕ) → (partition_of homes m ≡ k → ⊥) → module_at (part_of n homes k) m ≡ None

-- it has as many slots
pub record HasPlaces (n part : Circuit) : Type 0 where
  pub wires : length part.wires ≡ length n.wires
  pub modules : length part.modules ≡ length n.modules

abbrev pub PartsHavePlaces : Type 0
PartsHavePlaces = (n : Circuit) (homes : List ℕ) (k : ℕ) → HasPlaces n (part_of n homes k)

-- a netlist with the wires of another has the slots of a part
pub record HasPart (n : Circuit) (homes : List ℕ) (k : ℕ) (part : Circuit) : Type 0 where
  pub format : part.format ≡ n.format
  pub horizon : part.horizon ≡ n.horizon
  pub wires : part.wires ≡ n.wires
  pub bundles : part.bundles ≡ n.bundles
  pub places : length part.modules ≡ length n.modules
  pub here : (m : ℕ) → partition_of homes m ≡ k → module_at part m ≡ module_at n m
  pub elsewhere : (m : ℕ) → (partition_of homes m ≡ k → ⊥) → module_at part m ≡ None

-- then it is the part
abbrev pub PartsAreBySlots : Type 0
PartsAreBySlots = (n : Circuit) (homes : List ℕ) (k : ℕ) (part : Circuit) → HasPart n homes k part → part ≡ part_of n homes k

-- what drives a wire that isn't driven elsewhere drives it in the part
abbrev pub PartsHaveDrivers : Type 0
PartsHaveDrivers = (n : Circuit) (homes : List ℕ) (k w : ℕ) → IsCircuit n → IsDrivenWithin n homes k w → driver (part_of n homes k) w ≡ driver n w

-- nothing else is driven there
abbrev pub OthersAreUndriven : Type 0
OthersAreUndriven = (n : Circuit) (homes : List ℕ) (k w : ℕ) → IsCircuit n → IsDrivenElsewhere n homes k w → driver (part_of n homes k) w ≡ Nothing

-- the part of a netlist is a netlist
abbrev pub PartsAreCircuits : Type 0
PartsAreCircuits = (n : Circuit) (homes : List ℕ) (k : ℕ) → IsCircuit n → IsCircuit (part_of n homes k)
