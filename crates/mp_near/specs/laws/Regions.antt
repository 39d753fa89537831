-- A region of two netlists, the later of which was made of the other: what differs is picked, and the levels of all other wires are those of the old one.
use Rattle.std.specs.Prelude.{◌≡◌, ◌⊎◌, ℕ, ◌<◌, ◌≤◌, Bool, true, false, Some, None, length}
use Rattle.mp_records.specs.declared.module_record.ModuleRecord.{ModuleRecord}
use Rattle.mp_netlist.specs.Circuit.{Circuit, IsCircuit, Drives, wire_at, module_at}
use Rattle.mp_model.specs.Waves.{level, state}
use Rattle.mp_partition.specs.regions.Readers.{Reads}
use Rattle.mp_depend.specs.work.Revisions.{IsRevision, IsDrivenAlike}
use Rattle.mp_near.specs.laws.Picking.{Picking, has_wire, has_module, IsPicking, HasPicked, HasRoom, HasLevelsOf}

-- the same drives the wire in both netlists, or the wire stands in none of them
abbrev pub IsAsBefore : Circuit → Circuit → ℕ → Type 0
IsAsBefore old new w = IsDrivenAlike old new w ⊎ ((wire_at old w ≡ None) × (wire_at new w ≡ None))

-- a module that isn't picked has one record in both netlists; a wire that isn't picked is as before, and so is a given one
pub record IsRegion (old new : Circuit) (pick : Picking) : Type 0 where
  pub modules : (m : ℕ) → has_module pick m ≡ false → module_at old m ≡ module_at new m
  pub given : (k : ℕ) → pick.given k ≡ true → IsDrivenAlike old new (pick.wire_of k)
  pub others : (w : ℕ) → has_wire pick w ≡ false → IsAsBefore old new w

-- was and now are the region before the change and after it: both have the levels of the old netlist on given wires
pub record AreRegion (old new was now : Circuit) (pick : Picking) : Type 0 where
  pub region : IsRegion old new pick
  pub old_picking : IsPicking old pick
  pub new_picking : IsPicking new pick
  pub before : HasPicked old was pick (level old)
  pub after : HasPicked new now pick (level old)

-- they are netlists
abbrev pub RegionsAreCircuits : Type 0
RegionsAreCircuits = (old new was now : Circuit) (pick : Picking) → IsCircuit old → IsCircuit new → IsRevision old new → AreRegion old new was now pick →
    HasRoom was → HasRoom now → IsCircuit was × IsCircuit now

-- and the later is a revision of the other
abbrev pub RegionsAreRevisions : Type 0
RegionsAreRevisions = (old new was now : Circuit) (pick : Picking) → IsRevision old new → AreRegion old new was now pick →
    length was.wires ≤ length now.wires → length was.modules ≤ length now.modules → IsRevision was now

-- below h, each picked wire that isn't given and that a module reads which isn't picked has the levels of the old netlist
abbrev pub Stays : Circuit → Circuit → Circuit → Picking → ℕ → Type 0
Stays old new now pick h = (m w t : ℕ) → has_module pick m ≡ false → Reads new m w → has_wire pick w ≡ true → pick.given (pick.place_of w) ≡ false → t < h →
    level now (pick.place_of w) t ≡ level old w t

-- below h, wires and modules that aren't picked have the levels and states of the old netlist
pub record OthersStay (old new : Circuit) (pick : Picking) (h : ℕ) : Type 0 where
  pub levels : (w t : ℕ) → t < h → has_wire pick w ≡ false → level new w t ≡ level old w t
  pub states : (m t : ℕ) (r : ModuleRecord) → t < h → has_module pick m ≡ false → module_at new m ≡ Some r → state new m t ≡ state old m t

-- then, below h, what is picked has its levels and states in the region, and all else has those of the old netlist
abbrev pub RegionsHaveLevels : Type 0
RegionsHaveLevels = (old new was now : Circuit) (pick : Picking) → IsCircuit old → IsCircuit new → IsCircuit now → IsRevision old new → AreRegion old new was now pick →
    (h : ℕ) → h ≤ new.horizon → Stays old new now pick h → HasLevelsOf new now pick h × OthersStay old new pick h

-- all that read a wire of a picked module are picked, and all that read a wire which isn't driven alike
pub record IsClosed (old new : Circuit) (pick : Picking) : Type 0 where
  pub driven : (k p w m : ℕ) → has_module pick k ≡ true → Drives new k p w → Reads new m w → has_module pick m ≡ true
  pub changed : (w m : ℕ) → Reads new m w → (has_module pick m ≡ true) ⊎ IsDrivenAlike old new w

-- then at no time another level is read outside the region
abbrev pub ClosedRegionsStay : Type 0
ClosedRegionsStay = (old new was now : Circuit) (pick : Picking) → IsCircuit old → IsCircuit new → IsCircuit now → IsRevision old new → AreRegion old new was now pick →
    IsClosed old new pick → (h : ℕ) → Stays old new now pick h

-- the core of a region: a module outside of it has one record in both netlists, and all that read a wire of a module in it are in it, and all that read
-- a wire which isn't driven alike
pub record IsCore (old new : Circuit) (pick : Picking) (core : ℕ → Bool) : Type 0 where
  pub picked : (m : ℕ) → core m ≡ true → has_module pick m ≡ true
  pub same : (m : ℕ) → core m ≡ false → module_at old m ≡ module_at new m
  pub driven : (k p w m : ℕ) → core k ≡ true → Drives new k p w → Reads new m w → core m ≡ true
  pub changed : (w m : ℕ) → Reads new m w → (core m ≡ true) ⊎ IsDrivenAlike old new w

-- then outside the region no other level is read below the horizon, though others may read what is picked beside the core
abbrev pub ClosedCoresStay : Type 0
ClosedCoresStay = (old new was now : Circuit) (pick : Picking) (core : ℕ → Bool) → IsCircuit old → IsCircuit new → IsCircuit now → IsRevision old new →
    AreRegion old new was now pick → IsCore old new pick core → (h : ℕ) → h ≤ new.horizon → Stays old new now pick h
