-- What is evaluated again in a part is what is evaluated again in the netlist, where no wire connects the parts.
use Rattle.std.specs.Prelude.{◌≡◌, ◌↔◌, ℕ, List}
use Rattle.mp_records.specs.Outputs.{delay_of}
use Rattle.mp_netlist.specs.Circuit.{Circuit, IsCircuit, Drives}
use Rattle.mp_netlist.specs.Delays.{least_delay}
use Rattle.mp_partition.specs.regions.Regions.{partition_of}
use Rattle.mp_depend.specs.work.Revisions.{IsRevision}
use Rattle.mp_depend.specs.work.Work.{window_of, window_end, IsWindow, IsEntry}
use Rattle.mp_redo.specs.apart.Parts.{part_of, AreUnconnected}

-- the parts of a revision are revisions
abbrev pub PartsAreRevisions : Type 0
PartsAreRevisions = (old new : Circuit) → IsRevision old new → (homes : List ℕ) (k : ℕ) → IsRevision (part_of old homes k) (part_of new homes k)

-- a part has the least delay of its netlist where one of its ports has it that drives a wire
abbrev pub PartsHaveLeastDelay : Type 0
PartsHaveLeastDelay = (n : Circuit) → IsCircuit n → (homes : List ℕ) (k m p w : ℕ) (drives : Drives n m p w) → partition_of homes m ≡ k → delay_of drives.part p ≡ least_delay n →
    least_delay (part_of n homes k) ≡ least_delay n

-- the windows of a netlist are those of the other
pub record HasWindows (n other : Circuit) : Type 0 where
  pub horizon : other.horizon ≡ n.horizon
  pub begins : (t : ℕ) → window_of other t ≡ window_of n t
  pub ends : (t : ℕ) → window_end other t ≡ window_end n t
  pub windows : (from to : ℕ) → IsWindow other from to ↔ IsWindow n from to

-- so it is of a part with the same least delay
abbrev pub PartsHaveWindows : Type 0
PartsHaveWindows = (n : Circuit) (homes : List ℕ) (k : ℕ) → least_delay (part_of n homes k) ≡ least_delay n → HasWindows n (part_of n homes k)

-- then a module works in its part just when it works in the netlist
abbrev pub PartsHaveWork : Type 0
PartsHaveWork = (old new : Circuit) → IsCircuit old → IsCircuit new → IsRevision old new → (homes : List ℕ) → AreUnconnected old homes → AreUnconnected new homes →
    (k m from to : ℕ) → least_delay (part_of new homes k) ≡ least_delay new → partition_of homes m ≡ k →
    IsEntry (part_of old homes k) (part_of new homes k) m from to ↔ IsEntry old new m from to

-- modules of other parts don't work there
abbrev pub OthersDontWork : Type 0
OthersDontWork = (old new : Circuit) (homes : List ℕ) (k m from to : ℕ) → (partition_of homes m ≡ k → ⊥) → IsEntry (part_of old homes k) (part_of new homes k) m from to → ⊥
