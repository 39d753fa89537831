-- The work of a region is the work of its netlist.
use Rattle.std.specs.Prelude.{◌≡◌, ◌↔◌, ℕ, ◌≤◌, false}
use Rattle.mp_netlist.specs.Circuit.{Circuit, IsCircuit}
use Rattle.mp_netlist.specs.Delays.{least_delay}
use Rattle.mp_depend.specs.work.Revisions.{IsRevision}
use Rattle.mp_depend.specs.work.Work.{IsEntry}
use Rattle.mp_near.specs.laws.Picking.{Picking, has_module}
use Rattle.mp_near.specs.laws.Regions.{AreRegion, Stays}

-- up to h a picked module has the same entries in the region and in the netlist
abbrev pub HasWorkOf : (old new was now : Circuit) → Picking → ℕ → Type 0
HasWorkOf old new was now pick h = (k from to : ℕ) → to ≤ h → IsEntry was now k from to ↔ IsEntry old new (pick.module_of k) from to

-- so it is where the region has the least delay of the netlist, and outside no other level is read below h
abbrev pub RegionsHaveWork : Type 0
RegionsHaveWork = (old new was now : Circuit) (pick : Picking) → IsCircuit old → IsCircuit new → IsCircuit was → IsCircuit now → IsRevision old new →
    AreRegion old new was now pick → least_delay now ≡ least_delay new → (h : ℕ) → h ≤ new.horizon → Stays old new now pick h → HasWorkOf old new was now pick h

-- and a module that isn't picked has no entries up to h
abbrev pub OthersRest : Type 0
OthersRest = (old new was now : Circuit) (pick : Picking) → IsCircuit old → IsCircuit new → IsCircuit now → IsRevision old new → AreRegion old new was now pick →
    (h : ℕ) → h ≤ new.horizon → Stays old new now pick h → (m from to : ℕ) → to ≤ h → has_module pick m ≡ false → IsEntry old new m from to → ⊥
