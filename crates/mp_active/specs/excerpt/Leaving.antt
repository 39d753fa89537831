-- Modules are put to sleep between two units.
use Rattle.std.specs.Prelude.{◌≡◌, ℕ, ◌<◌, Bool, true, false, not, None, length, ◌&&◌, ◌==◌, if◌then◌else◌}
use Rattle.mp_netlist.specs.declared.driver.Driver.{Driver}
use Rattle.mp_netlist.specs.declared.driver.Driver.TheVariants.{Nothing, Stimulus, Port}
use Rattle.mp_netlist.specs.Circuit.{Circuit, IsCircuit}
use Rattle.mp_netlist.specs.Drivers.{driver}
use Rattle.mp_kernel.specs.events.Adding.{state_at, listed}
use Rattle.mp_simulation.specs.bits.Simulators.{slot_at}
use Rattle.mp_kernel.specs.datapath.DataFiring.{place_at}
use Rattle.mp_simulation.specs.declared.units.netlist_simulation.NetlistSimulation.{NetlistSimulation}
use Rattle.mp_simulation.specs.units.DataLevels.{changes_of}
use Rattle.mp_simulation.specs.units.DataWheels.{data_slot, AreChangesBelow}
use Rattle.mp_active.specs.excerpt.Numberings.{Numbering}
use Rattle.mp_active.specs.excerpt.Levels.{AreLevelsShown}
use Rattle.mp_active.specs.excerpt.Showing.{IsAsleep, Shows}

-- the active modules but those that leave
abbrev pub without : (ℕ → Bool) → (ℕ → Bool) → ℕ → Bool
without active leaving k = active k && not (leaving k)

-- it is a port of one of these modules
abbrev pub is_port_in : (ℕ → Bool) → Driver → Bool
is_port_in modules Nothing = false
is_port_in modules Stimulus = false
is_port_in modules (Port k p) = modules k.0

-- it is a port of the module
abbrev pub is_port_of : ℕ → Driver → Bool
is_port_of m d = is_port_in (λ k. k == m) d

-- a simulation becomes another, in which these modules sleep and have no place among those with data, and the wheels have nothing of the wires that
-- they drive; all else is as it was
pub record HaveLeft (n : Circuit) (numbering : Numbering) (leaving : ℕ → Bool) (t : ℕ) (s new : NetlistSimulation) : Type 0 where
  pub copies : new.bits.copies ≡ s.bits.copies
  pub simulator : new.bits.simulator ≡ record (s.bits.simulator) { states = new.bits.simulator.states; wheel = new.bits.simulator.wheel }
  pub states : length new.bits.simulator.states.items ≡ length s.bits.simulator.states.items
  pub asleep : (q : ℕ) → q < length n.modules → leaving q ≡ true → IsAsleep (state_at new.bits.simulator.states.items q)
  pub other_states : (q : ℕ) → leaving q ≡ false → state_at new.bits.simulator.states.items q ≡ state_at s.bits.simulator.states.items q
  pub units : length new.bits.simulator.wheel ≡ length s.bits.simulator.wheel
  pub events : (w k : ℕ) → k < length s.bits.simulator.wheel →
      listed w (slot_at new.bits.simulator k) ≡ (if is_port_in leaving (driver n w) then 0 else listed w (slot_at s.bits.simulator k))
  pub wires : new.wires ≡ record (s.wires) { wheel = new.wires.wheel }
  pub change_units : length new.wires.wheel ≡ length s.wires.wheel
  pub changes : (x k : ℕ) → x < length s.bits.simulator.fanout → k < length s.wires.wheel →
      changes_of x (data_slot new.wires.wheel k) ≡ (if is_port_in leaving (driver n x) then 0 else changes_of x (data_slot s.wires.wheel k))
  pub numbered : AreChangesBelow (length s.bits.simulator.fanout) new.wires.wheel
  pub change_levels : AreLevelsShown n numbering t new.wires.wheel
  pub modules : new.modules ≡ record (s.modules) { places = new.modules.places }
  pub places : length new.modules.places.items ≡ length s.modules.places.items
  pub no_places : (q : ℕ) → leaving q ≡ true → place_at new.modules.places.items q ≡ None
  pub other_places : (q : ℕ) → leaving q ≡ false → place_at new.modules.places.items q ≡ place_at s.modules.places.items q

-- then it has the netlist without these active modules
abbrev pub LeavingShows : Type 0
LeavingShows = (n : Circuit) → IsCircuit n → (active on : ℕ → Bool) (numbering : Numbering) (leaving : ℕ → Bool) (t : ℕ) (s new : NetlistSimulation) →
    Shows n active on numbering t s → HaveLeft n numbering leaving t s new → Shows n (without active leaving) on numbering t new
