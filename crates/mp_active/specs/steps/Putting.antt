-- Changes to come are put into the wheels.
use Rattle.std.specs.Prelude.{◌≡◌, ℕ, ◌-◌, ◌<◌, ◌≤◌, Bool, List, length, map, if◌then◌else◌}
use Rattle.mp_kernel.specs.events.Firing.{scheduled}
use Rattle.mp_kernel.specs.declared.datapath.level_change.LevelChange.{LevelChange}
use Rattle.mp_kernel.specs.datapath.LevelWheels.{scheduled as levels_scheduled}
use Rattle.mp_simulation.specs.declared.units.netlist_simulation.NetlistSimulation.{NetlistSimulation}

-- changes of a wire, each a time and a level, as they are put after the unit of a time: how many units after the next, and the change
abbrev pub entry_of : ℕ → ℕ → ℕ × ℕ → ℕ × LevelChange
entry_of w now change = (change.0 - now - 1, record { number = w; level = change.1 })

abbrev pub entries_of : ℕ → ℕ → List (ℕ × ℕ) → List (ℕ × LevelChange)
entries_of w now changes = map (entry_of w now) changes

-- for a wire of width 1 its level isn't kept
abbrev pub toggle_of : ℕ × LevelChange → ℕ × ℕ
toggle_of entry = (entry.0, entry.1.number)

abbrev pub toggles_of : List (ℕ × LevelChange) → List (ℕ × ℕ)
toggles_of entries = map toggle_of entries

-- how many units the wheel has of wires of this kind
abbrev pub room : Bool → NetlistSimulation → ℕ
room with_data s = if with_data then length s.wires.wheel else length s.bits.simulator.wheel

-- the change comes after the unit of a time, within so many units
pub record IsAhead (now units : ℕ) (change : ℕ × ℕ) : Type 0 where
  pub later : now < change.0
  pub within : change.0 - now ≤ units

-- the wheel of wires with data has these changes more, or that of wires of width 1; all else is as it was
pub record HasPut (with_data : Bool) (entries : List (ℕ × LevelChange)) (s new : NetlistSimulation) : Type 0 where
  pub bits : new.bits ≡ record (s.bits) { simulator = record (s.bits.simulator) { wheel = new.bits.simulator.wheel } }
  pub events : new.bits.simulator.wheel ≡ (if with_data then s.bits.simulator.wheel else scheduled s.bits.simulator.wheel (toggles_of entries))
  pub wires : new.wires ≡ record (s.wires) { wheel = new.wires.wheel }
  pub changes : new.wires.wheel ≡ (if with_data then levels_scheduled s.wires.wheel entries else s.wires.wheel)
  pub modules : new.modules ≡ s.modules
