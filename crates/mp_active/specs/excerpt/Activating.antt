-- A module becomes active between two units.
use Rattle.std.specs.Prelude.{◌≡◌, ℕ, ◌+◌, ◌<◌, ◌≤◌, Bool, true, false, All, Some, None, length, nat_lt, ◌&&◌, ◌||◌, ◌==◌, if◌then◌else◌}
use Rattle.mp_records.specs.declared.module_record.ModuleRecord.{ModuleRecord}
use Rattle.mp_records.specs.Outputs.{delay_of}
use Rattle.mp_netlist.specs.Circuit.{Circuit, IsCircuit, Drives, module_at, module_width}
use Rattle.mp_netlist.specs.Drivers.{driver}
use Rattle.mp_modules.specs.automata.Codes.{bit}
use Rattle.mp_kernel.specs.events.Adding.{state_at, listed}
use Rattle.mp_kernel.specs.events.Firing.{HaveSlots, ports_at}
use Rattle.mp_kernel.specs.events.LevelFlips.{levels_at}
use Rattle.mp_simulation.specs.bits.Changes.{change_at}
use Rattle.mp_simulation.specs.bits.Simulators.{slot_at, AreBelow}
use Rattle.mp_kernel.specs.datapath.DataModules.{CanFire}
use Rattle.mp_kernel.specs.datapath.DataFiring.{place_at, module_at as data_module_at, ArePlaced}
use Rattle.mp_simulation.specs.declared.units.netlist_simulation.NetlistSimulation.{NetlistSimulation}
use Rattle.mp_simulation.specs.units.DataLevels.{is_data, is_bit_wire, changes_of}
use Rattle.mp_simulation.specs.units.DataSeats.{IsDataSeat}
use Rattle.mp_simulation.specs.units.DataWheels.{data_slot, driver_delay, AreChangesBelow}
use Rattle.mp_active.specs.excerpt.Excerpts.{ArePortsOn}
use Rattle.mp_active.specs.excerpt.Numberings.{Numbering, scope_of}
use Rattle.mp_active.specs.excerpt.Levels.{AreLevelsShown}
use Rattle.mp_active.specs.excerpt.Showing.{IsSeatShown, IsAsleep, Shows}
use Rattle.mp_active.specs.excerpt.Leaving.{is_port_of}

-- the active modules, and one more
abbrev pub with_module : (ℕ → Bool) → ℕ → ℕ → Bool
with_module active m k = active k || (k == m)

-- a module with data has a place, and stands there as it is after t
pub record IsDataSeated (n : Circuit) (active : ℕ → Bool) (numbering : Numbering) (m t : ℕ) (s : NetlistSimulation) : Type 0 where
  pub number : ℕ
  pub place : place_at s.modules.places.items m ≡ Some number
  pub seat : IsDataSeat n (scope_of n active numbering t) (length s.bits.simulator.fanout) (length s.bits.simulator.wheel) (length s.wires.wheel) t m (data_module_at s.modules.modules.items number)

-- in the simulator the module has its state and levels after t, if it has width 1, and sleeps, if it has data; the wires that it drives are in the
-- slots of their changes that rest on its states up to t; all else is as it was
pub record IsBitModuleActivated (n : Circuit) (numbering : Numbering) (m t : ℕ) (r : ModuleRecord) (s new : NetlistSimulation) : Type 0 where
  pub simulator : new.bits.simulator ≡ record (s.bits.simulator) {
    outputs = new.bits.simulator.outputs;
    states = new.bits.simulator.states;
    levels = new.bits.simulator.levels;
    wheel = new.bits.simulator.wheel;
  }
  pub states : length new.bits.simulator.states.items ≡ length s.bits.simulator.states.items
  pub levels : length new.bits.simulator.levels.items ≡ length s.bits.simulator.levels.items
  pub outputs : length new.bits.simulator.outputs ≡ length s.bits.simulator.outputs
  pub units : length new.bits.simulator.wheel ≡ length s.bits.simulator.wheel
  pub slots : All (HaveSlots (length s.bits.simulator.wheel)) new.bits.simulator.outputs
  pub driven : All (AreBelow (length s.bits.simulator.waves)) new.bits.simulator.outputs
  pub seat : (module_width n r == 1) ≡ true → IsSeatShown n numbering t m r new.bits.simulator
  pub sleeps : (module_width n r == 1) ≡ false → IsAsleep (state_at new.bits.simulator.states.items m)
  pub other_states : (q : ℕ) → (q == m) ≡ false → state_at new.bits.simulator.states.items q ≡ state_at s.bits.simulator.states.items q
  pub other_levels : (q : ℕ) → (q == m) ≡ false → levels_at new.bits.simulator.levels.items q ≡ levels_at s.bits.simulator.levels.items q
  pub other_outputs : (q : ℕ) → (q == m) ≡ false → ports_at new.bits.simulator.outputs q ≡ ports_at s.bits.simulator.outputs q
  pub room : (w p : ℕ) → Drives n m p w → delay_of r p ≤ length s.bits.simulator.wheel
  pub events : (w k : ℕ) → k < length s.bits.simulator.wheel →
      listed w (slot_at new.bits.simulator k)
      ≡ (if is_port_of m (driver n w) then bit ((change_at n w (t + 1 + k) && is_bit_wire n w) && nat_lt k (driver_delay n (driver n w))) else listed w (slot_at s.bits.simulator k))

-- a simulation becomes another, in which the module is active after t
pub record IsActivated (n : Circuit) (active : ℕ → Bool) (numbering : Numbering) (m t : ℕ) (r : ModuleRecord) (s new : NetlistSimulation) : Type 0 where
  pub bits : IsBitModuleActivated n numbering m t r s new
  pub copies : new.bits.copies ≡ s.bits.copies
  pub wires : new.wires ≡ record (s.wires) { wheel = new.wires.wheel }
  pub change_units : length new.wires.wheel ≡ length s.wires.wheel
  pub changes : (x k : ℕ) → x < length s.bits.simulator.fanout → k < length s.wires.wheel →
      changes_of x (data_slot new.wires.wheel k)
      ≡ (if is_port_of m (driver n x) then bit ((change_at n x (t + 1 + k) && is_data n x) && nat_lt k (driver_delay n (driver n x))) else changes_of x (data_slot s.wires.wheel k))
  pub numbered : AreChangesBelow (length s.bits.simulator.fanout) new.wires.wheel
  pub change_levels : AreLevelsShown n numbering t new.wires.wheel
  pub places : length new.modules.places.items ≡ length s.modules.places.items
  pub placed : ArePlaced new.modules.places.items (length new.modules.modules.items)
  pub fit : All (CanFire (length s.bits.simulator.fanout) (length s.bits.simulator.wheel) (length s.wires.wheel)) new.modules.modules.items
  pub no_place : (module_width n r == 1) ≡ true → place_at new.modules.places.items m ≡ None
  pub data_seat : (module_width n r == 1) ≡ false → IsDataSeated n (with_module active m) numbering m t new
  pub other_places : (q : ℕ) → (q == m) ≡ false → place_at new.modules.places.items q ≡ place_at s.modules.places.items q
  pub other_modules : (q k : ℕ) → (q == m) ≡ false → place_at s.modules.places.items q ≡ Some k → data_module_at new.modules.modules.items k ≡ data_module_at s.modules.modules.items k

-- then it has the netlist with one more active module, where all ports of this are at wires that are on
abbrev pub ActivatingShows : Type 0
ActivatingShows = (n : Circuit) → IsCircuit n → (active on : ℕ → Bool) (numbering : Numbering) (m t : ℕ) (r : ModuleRecord) (s new : NetlistSimulation) →
    module_at n m ≡ Some r → ArePortsOn n (with_module active m) on → Shows n active on numbering t s → IsActivated n active numbering m t r s new →
    Shows n (with_module active m) on numbering t new
