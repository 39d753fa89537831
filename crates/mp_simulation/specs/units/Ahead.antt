-- What a simulation knows of the units to come.
use Rattle.std.specs.Prelude.{◌≡◌, ℕ, ◌+◌, ◌<◌, true, All, length, nat_lt, ◌&&◌}
use Rattle.mp_netlist.specs.Circuit.{Circuit, IsCircuit}
use Rattle.mp_netlist.specs.Drivers.{driver}
use Rattle.mp_model.specs.Waves.{level}
use Rattle.mp_modules.specs.automata.Codes.{bit}
use Rattle.mp_kernel.specs.events.Adding.{listed}
use Rattle.mp_simulation.specs.bits.Changes.{change_at}
use Rattle.mp_simulation.specs.bits.Simulators.{slot_at}
use Rattle.mp_kernel.specs.declared.datapath.level_change.LevelChange.{LevelChange}
use Rattle.mp_simulation.specs.declared.units.netlist_simulation.NetlistSimulation.{NetlistSimulation}
use Rattle.mp_simulation.specs.units.DataLevels.{is_data, is_bit_wire, changes_of}
use Rattle.mp_simulation.specs.units.DataWheels.{data_slot, driver_delay}
use Rattle.mp_simulation.specs.units.NetlistSimulations.{IsSimulated}

-- after t, so many units after the next, just the wires of width 1 toggle that are known to: those whose ports have longer delays
abbrev pub TogglesAhead : Type 0
TogglesAhead = (n : Circuit) → IsCircuit n → (t : ℕ) (s : NetlistSimulation) → IsSimulated n t s → (w k : ℕ) →
    listed w (slot_at s.bits.simulator k) ≡ bit ((change_at n w (t + 1 + k) && is_bit_wire n w) && nat_lt k (driver_delay n (driver n w)))

-- and just such wires with data change
abbrev pub LevelsAhead : Type 0
LevelsAhead = (n : Circuit) → IsCircuit n → (t : ℕ) (s : NetlistSimulation) → IsSimulated n t s → (w k : ℕ) → w < length n.wires →
    changes_of w (data_slot s.wires.wheel k) ≡ bit ((change_at n w (t + 1 + k) && is_data n w) && nat_lt k (driver_delay n (driver n w)))

-- with the levels that they have then
abbrev pub LevelsAreRight : Type 0
LevelsAreRight = (n : Circuit) → IsCircuit n → (t : ℕ) (s : NetlistSimulation) → IsSimulated n t s → (k : ℕ) →
    All (λ (c : LevelChange). is_data n c.number ≡ true → c.level ≡ level n c.number (t + 1 + k)) (data_slot s.wires.wheel k)
