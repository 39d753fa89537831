-- What an edit reaches.
use Rattle.std.specs.Prelude.{◌≡◌, ◌⊎◌, ℕ, ◌<◌, ◌≤◌, Bool, true, false, List, IsSome, None, length}
use Rattle.mp_netlist.specs.Circuit.{Circuit, Drives, wire_at, module_at, stimulus_at}
use Rattle.mp_partition.specs.runs.Marks.{is_marked}
use Rattle.mp_partition.specs.regions.Readers.{Reads}
use Rattle.mp_near.specs.reach.Marks.{AreGrown}

-- the wire stands in both netlists, with one stimulus or with none, or in none of them
abbrev pub IsSetSame : Circuit → Circuit → ℕ → Type 0
IsSetSame old new w = (IsSome (wire_at old w) × IsSome (wire_at new w) × (stimulus_at old w ≡ stimulus_at new w)) ⊎ ((wire_at old w ≡ None) × (wire_at new w ≡ None))

-- a module that isn't marked has one record in both netlists, and a wire that isn't is set alike; the wires that a marked module drives are marked
pub record IsReach (old new : Circuit) (modules wires : List Bool) : Type 0 where
  pub module_count : length modules ≡ length new.modules
  pub wire_count : length wires ≡ length new.wires
  pub same : (m : ℕ) → is_marked modules m ≡ false → module_at old m ≡ module_at new m
  pub alike : (w : ℕ) → is_marked wires w ≡ false → IsSetSame old new w
  pub before : (m p w : ℕ) → is_marked modules m ≡ true → Drives old m p w → is_marked wires w ≡ true
  pub after : (m p w : ℕ) → is_marked modules m ≡ true → Drives new m p w → is_marked wires w ≡ true

-- the module reads no marked wire
abbrev pub ReadsNone : Circuit → List Bool → ℕ → Type 0
ReadsNone n wires m = (w : ℕ) → Reads n m w → is_marked wires w ≡ false

-- each module that reads the wire is marked
abbrev pub AreReadersMarked : Circuit → List Bool → ℕ → Type 0
AreReadersMarked n modules w = (m : ℕ) → Reads n m w → is_marked modules m ≡ true

-- of the wires from a number on, below another, each that is marked has marked readers alone
abbrev pub IsClosedBetween : Circuit → List Bool → List Bool → ℕ → ℕ → Type 0
IsClosedBetween n modules wires from to = (w : ℕ) → from ≤ w → w < to → is_marked wires w ≡ true → AreReadersMarked n modules w

-- and no other module reads a marked wire
pub record IsWholeReach (old new : Circuit) (modules wires : List Bool) : Type 0 where
  pub reach : IsReach old new modules wires
  pub closed : (m : ℕ) → is_marked modules m ≡ false → ReadsNone new wires m

-- among the marked modules are all that the edit reaches
pub record HasReach (old new : Circuit) (modules wires : List Bool) : Type 0 where
  pub reach : IsReach old new modules wires
  pub core : List Bool
  pub core_wires : List Bool
  pub whole : IsWholeReach old new core core_wires
  pub grown : AreGrown core modules
