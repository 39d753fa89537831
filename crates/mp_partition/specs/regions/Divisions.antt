-- Netlists in parts, which read nothing from each other but on wires that they hear.
use Rattle.std.specs.Prelude.{◌≡◌, ℕ, ◌<◌, ◌≤◌, ◌⊎◌, Bool, true, List, [], Some, None, slice_index_or, is_some}
use Rattle.mp_records.specs.declared.ports.Input.{Input}
use Rattle.mp_records.specs.declared.ports.Output.{Output}
use Rattle.mp_records.specs.Outputs.{delay_of}
use Rattle.mp_netlist.specs.Circuit.{Circuit, Drives, wire_at, stimulus_at}
use Rattle.mp_partition.specs.regions.Readers.{Reads}
use Rattle.mp_partition.specs.runs.Marks.{is_marked}
use Rattle.mp_partition.specs.regions.Regions.{partition_of}

-- the wires that a part hears: none, where no list is there
abbrev pub heard_by : List (List Bool) → ℕ → List Bool
heard_by heards part = slice_index_or heards part []

-- the wire of an output, if any, is at home here
abbrev pub IsDrivenAt : List ℕ → ℕ → Output → Type 0
IsDrivenAt wires home output = (w : ℕ) → output.wire ≡ Some (record { 0 = w }) → partition_of wires w ≡ home

-- the wire is at home here, or nowhere, or it is heard here
abbrev pub IsWireAtHome : List ℕ → List Bool → ℕ → ℕ → ℕ → Type 0
IsWireAtHome wires heard parts home w = (partition_of wires w ≡ home) ⊎ ((parts ≤ partition_of wires w) ⊎ (is_marked heard w ≡ true))

-- so is the wire of an input
abbrev pub IsReadAt : List ℕ → List Bool → ℕ → ℕ → Input → Type 0
IsReadAt wires heard parts home input = IsWireAtHome wires heard parts home input.wire.0

-- the wires of a module are at home with it, but for those that it reads and that are at home nowhere, or that its part hears
pub record IsAtHome (n : Circuit) (homes wires : List ℕ) (heards : List (List Bool)) (parts m : ℕ) : Type 0 where
  pub driven : (p w : ℕ) → Drives n m p w → partition_of wires w ≡ partition_of homes m
  pub read : (w : ℕ) → Reads n m w → IsWireAtHome wires (heard_by heards (partition_of homes m)) parts (partition_of homes m) w

-- a wire that a part hears stands and is at home elsewhere, and nothing is set on it from outside
pub record IsHeardThere (n : Circuit) (wires : List ℕ) (part w : ℕ) : Type 0 where
  pub stands : is_some (wire_at n w) ≡ true
  pub elsewhere : partition_of wires w ≡ part → ⊥
  pub unset : stimulus_at n w ≡ None

-- every module is at home in one of the parts, and so is each wire that a port drives, with this port's module and all that read it
-- without hearing of it
pub record IsDivision (n : Circuit) (homes wires : List ℕ) (heards : List (List Bool)) (parts : ℕ) : Type 0 where
  pub some : 0 < parts
  pub at_home : (m : ℕ) → IsAtHome n homes wires heards parts m
  pub few : (m : ℕ) → partition_of homes m < parts
  pub heard : (k w : ℕ) → is_marked (heard_by heards k) w ≡ true → IsHeardThere n wires k w

-- where a part hears the wire of an output, its delay isn't shorter
abbrev pub IsLateFor : List (List Bool) → Output → ℕ → Type 0
IsLateFor heards output delay = (k w : ℕ) → output.wire ≡ Some (record { 0 = w }) → is_marked (heard_by heards k) w ≡ true → delay ≤ output.delay

-- no port that drives a wire which a part hears has a shorter delay
pub record IsCrossing (n : Circuit) (heards : List (List Bool)) (delay : ℕ) : Type 0 where
  pub some : 1 ≤ delay
  pub least : (k m p w : ℕ) (drives : Drives n m p w) → is_marked (heard_by heards k) w ≡ true → delay ≤ delay_of drives.part p
