-- A simulation within a unit: what changes in it has been applied, and nothing has fired.
use Rattle.std.specs.Prelude.{◌≡◌, ℕ, ◌+◌, drop, List, [], ◌∷◌, ◌++◌, All, Option, length, map}
use Rattle.mp_netlist.specs.Circuit.{Circuit, IsCircuit}
use Rattle.mp_simulation.specs.bits.Scopes.{Scope}
use Rattle.mp_simulation.specs.bits.Simulators.{next_slot, IsBelow, IsSound, AreOnlyDue}
use Rattle.mp_simulation.specs.bits.Units.{IsBefore, IsDuring, AreDue}
use Rattle.mp_simulation.specs.bits.Copies.{AreChained, HaveCopies, HaveLaterCopies, AreOriginals, AreListedBelow}
use Rattle.mp_simulation.specs.bits.Simulations.{copy_slot}
use Rattle.mp_kernel.specs.declared.datapath.level_change.LevelChange.{LevelChange}
use Rattle.mp_kernel.specs.datapath.Levels.{toggled, changed}
use Rattle.mp_kernel.specs.datapath.LevelWheels.{scheduled, copied_from}
use Rattle.mp_simulation.specs.declared.units.netlist_simulation.NetlistSimulation.{NetlistSimulation}
use Rattle.mp_simulation.specs.units.DataLevels.{number_of_change}
use Rattle.mp_simulation.specs.units.DataWaves.{pushed}
use Rattle.mp_simulation.specs.units.DataWheels.{data_slot}
use Rattle.mp_simulation.specs.units.NetlistSimulations.{IsSimulated, AreStimuli}

-- what changes in the next unit of numbers with data, and what is heard beside wires of width 1
abbrev pub present_of : NetlistSimulation → List LevelChange → List LevelChange
present_of s changes = data_slot s.wires.wheel 0 ++ changes

abbrev pub others_of : NetlistSimulation → List LevelChange → List ℕ
others_of s changes = copy_slot s.bits.copies 0 ++ map number_of_change (present_of s changes)

-- the wires of width 1 have toggled, and modules have had their events
pub record HaveToggled (s new : NetlistSimulation) (set : List ℕ) (changes : List LevelChange) (time : ℕ) : Type 0 where
  pub sound : IsSound new.bits.simulator
  pub applied : (n : Circuit) (scope : Scope) (t : ℕ) → IsCircuit n → time ≡ t + 1 → IsBefore n scope t s.bits.simulator →
      AreDue n scope t (next_slot s.bits.simulator ++ set) (others_of s changes) → IsDuring n scope t new.bits.simulator
  pub only : s.bits.simulator.due.items ≡ [] → AreOnlyDue s.bits.simulator.fanout ((next_slot s.bits.simulator ++ set) ++ others_of s changes) new.bits.simulator.due.items
  pub fanout : new.bits.simulator.fanout ≡ s.bits.simulator.fanout
  pub units : length new.bits.simulator.wheel ≡ length s.bits.simulator.wheel
  pub places : length new.bits.simulator.states.items ≡ length s.bits.simulator.states.items
  pub waves : length new.bits.simulator.waves ≡ length s.bits.simulator.waves

-- the next copies of what has changed are scheduled
pub record HaveAdvanced (s new : NetlistSimulation) (set : List ℕ) : Type 0 where
  pub next : new.bits.copies.next.items ≡ s.bits.copies.next.items
  pub units : length new.bits.copies.wheel ≡ length s.bits.copies.wheel
  pub low : (bound : ℕ) → All (IsBelow bound) s.bits.copies.next.items → AreListedBelow bound (drop 1 s.bits.copies.wheel ++ [] ∷ []) → AreListedBelow bound new.bits.copies.wheel
  pub copies : (n : Circuit) (source : ℕ → ℕ × ℕ) (before : ℕ → Option ℕ) (t : ℕ) → AreChained source before s.bits.copies.next.items →
      HaveLaterCopies n source before s.bits.copies.next.items t (drop 1 s.bits.copies.wheel ++ [] ∷ []) →
      AreOriginals n source before (copy_slot s.bits.copies 0 ++ (next_slot s.bits.simulator ++ set)) (t + 1) → HaveCopies n source before s.bits.copies.next.items (t + 1) new.bits.copies.wheel

-- numbers have the levels of the unit, wires with data have them in their waves, and their next copies are scheduled
pub record HaveTurned (s new : NetlistSimulation) (set : List ℕ) (changes : List LevelChange) (time : ℕ) : Type 0 where
  pub levels : new.wires.levels.items ≡ changed (toggled (toggled s.wires.levels.items (next_slot s.bits.simulator ++ set)) (copy_slot s.bits.copies 0)) (present_of s changes)
  pub waves : new.wires.waves.items ≡ pushed s.wires.waves.items time (present_of s changes)
  pub next : new.wires.next.items ≡ s.wires.next.items
  pub wheel : new.wires.wheel ≡ scheduled (drop 1 s.wires.wheel ++ [] ∷ []) (copied_from s.wires.next.items (present_of s changes))
  pub units : length new.wires.wheel ≡ length s.wires.wheel

-- a simulation becomes another, when what changes in a unit is applied
pub record HasApplied (s new : NetlistSimulation) (set : List ℕ) (changes : List LevelChange) (time : ℕ) : Type 0 where
  pub toggled : HaveToggled s new set changes time
  pub advanced : HaveAdvanced s new set
  pub turned : HaveTurned s new set changes time
  pub modules : new.modules ≡ s.modules

-- what changes in the unit after t has been applied to a simulation of a netlist
pub record IsApplied (n : Circuit) (t : ℕ) (s : NetlistSimulation) : Type 0 where
  pub before : NetlistSimulation
  pub is : IsSimulated n t before
  pub set : List ℕ
  pub changes : List LevelChange
  pub stimuli : AreStimuli n set changes (t + 1)
  pub applied : HasApplied before s set changes (t + 1)

-- so it is of some netlist and unit
pub record CanFire (s : NetlistSimulation) : Type 0 where
  pub n : Circuit
  pub ok : IsCircuit n
  pub t : ℕ
  pub is : IsApplied n t s
