-- A module takes its place.
use Rattle.std.specs.Prelude.{◌≡◌, ℕ, ◌++◌, ◌∷◌, [], List, Option, Some, None, length, slice_set}
use Rattle.mp_modules.specs.declared.memory.Memory.{Memory}
use Rattle.mp_modules.specs.declared.storage.any_module.AnyModule.{AnyModule}
use Rattle.mp_modules.specs.automata.Automata.{automaton_of}
use Rattle.mp_modules.specs.automata.Phases.{phase_of}
use Rattle.mp_modules.specs.automata.Codes.{state_code, no_events}
use Rattle.mp_modules.specs.automata.PortLevels.{levels_code}
use Rattle.mp_kernel.specs.declared.datapath.data_module.DataModule.{DataModule}
use Rattle.mp_simulation.specs.declared.units.netlist_simulation.NetlistSimulation.{NetlistSimulation}

-- a module of width 1 is in a state with no event, and its ports have the levels of that; all else is as it was
pub record IsBitSeated (m : ℕ) (part : AnyModule) (memory : Memory) (s new : NetlistSimulation) : Type 0 where
  pub bits : new.bits ≡ record (s.bits) { simulator = record (s.bits.simulator) { states = new.bits.simulator.states; levels = new.bits.simulator.levels } }
  pub states : new.bits.simulator.states.items ≡ slice_set s.bits.simulator.states.items m (record { 0 = state_code (automaton_of part) (phase_of part memory) no_events })
  pub levels : new.bits.simulator.levels.items ≡ slice_set s.bits.simulator.levels.items m (record { 0 = levels_code memory })
  pub wires : new.wires ≡ s.wires
  pub modules : new.modules ≡ s.modules

-- the modules with one more at a seat, which is a new one behind all others where it has had none before
abbrev pub seated : List DataModule → Option ℕ → DataModule → List DataModule
seated modules None state = modules ++ state ∷ []
seated modules (Some k) state = slice_set modules k state

-- the place of that module
abbrev pub seat_in : List DataModule → Option ℕ → ℕ
seat_in modules None = length modules
seat_in modules (Some k) = k

-- a module with data has a place; all else is as it was
pub record HasTakenSeat (m : ℕ) (seat : Option ℕ) (state : DataModule) (given : ℕ) (s new : NetlistSimulation) : Type 0 where
  pub bits : new.bits ≡ s.bits
  pub wires : new.wires ≡ s.wires
  pub place : given ≡ seat_in s.modules.modules.items seat
  pub places : new.modules.places.items ≡ slice_set s.modules.places.items m (Some given)
  pub modules : new.modules.modules.items ≡ seated s.modules.modules.items seat state
