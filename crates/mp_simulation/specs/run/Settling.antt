-- Modules at time 0.
use Rattle.std.specs.Prelude.{◌≡◌, ℕ, ◌+◌, ◌^◌, ◌<◌, Bool, true, false, not, List, [], Option, Some, None, length, slice_index_or, nat_lt, ◌==◌, ◌&&◌, if◌then◌else◌}
use Rattle.mp_modules.specs.declared.memory.Memory.{Memory}
use Rattle.mp_modules.specs.Memories.{output_of}
use Rattle.mp_records.specs.declared.ports.Output.{Output}
use Rattle.mp_records.specs.declared.module_record.ModuleRecord.{ModuleRecord}
use Rattle.mp_netlist.specs.declared.driver.Driver.{Driver}
use Rattle.mp_netlist.specs.declared.driver.Driver.TheVariants.{Nothing, Stimulus, Port}
use Rattle.mp_netlist.specs.Circuit.{Circuit, wire_at, module_at}
use Rattle.mp_netlist.specs.Drivers.{driver}
use Rattle.mp_model.specs.Levels.{initial_of}
use Rattle.mp_model.specs.Waves.{state}
use Rattle.mp_modules.specs.declared.automata.automaton.Automaton.TheVariants.{Sleep}
use Rattle.mp_modules.specs.declared.automata.automaton_state.AutomatonState.{AutomatonState}
use Rattle.mp_modules.specs.declared.automata.toggles.Toggles.{Toggles}
use Rattle.mp_modules.specs.declared.automata.port_levels.PortLevels.{PortLevels}
use Rattle.mp_modules.specs.automata.Codes.{bit, no_events}
use Rattle.mp_modules.specs.automata.PortLevels.{levels_code}
use Rattle.mp_modules.specs.automata.Phases.{unserved}
use Rattle.mp_kernel.specs.declared.events.output_port.OutputPort.{OutputPort}
use Rattle.mp_kernel.specs.declared.events.output_ports.OutputPorts.{OutputPorts}
use Rattle.mp_kernel.specs.events.Adding.{state_at, listed}
use Rattle.mp_kernel.specs.events.Firing.{UnitState, no_port, number_of, fired_at}
use Rattle.mp_kernel.specs.events.LevelFlips.{levels_at}
use Rattle.mp_simulation.specs.bits.Schedules.{output_ports_of}
use Rattle.mp_simulation.specs.bits.Units.{rest_state_at}
use Rattle.mp_simulation.specs.bits.Beginnings.{is_first}
use Rattle.mp_simulation.specs.units.DataLevels.{is_data}
use Rattle.mp_simulation.specs.run.Widths.{is_bit_module}

-- the delay of an output is a number of 16 bits
abbrev pub IsShort : Output → Type 0
IsShort o = o.delay < 2 ^ 16

-- the outputs of what stands in a module's slot
abbrev pub ports_of : Option ModuleRecord → OutputPorts
ports_of None = record { first = no_port; second = no_port; third = no_port }
ports_of (Some r) = output_ports_of r

-- the wire has width 1, and a level isn't its initial one
abbrev pub departs_from : Circuit → Option ℕ → ℕ → Bool
departs_from n None level = false
departs_from n (Some w) level = not (is_data n w) && not (initial_of (wire_at n w) == level)

abbrev pub departs : Circuit → OutputPort → ℕ → Bool
departs n port level = departs_from n port.wire level

-- the outputs whose levels in a state aren't the initial ones of their wires, which have width 1
abbrev pub departing : Circuit → OutputPorts → Memory → Toggles
departing n ports m = record {
  first = departs n ports.first (output_of m 0);
  second = departs n ports.second (output_of m 1);
  third = departs n ports.third (output_of m 2);
}

-- a place where no module of width 1 stands
abbrev pub no_unit : UnitState
no_unit = record { automaton = Sleep; phase = unserved false false; events = no_events }

abbrev pub first_unit_of : Circuit → ℕ → ModuleRecord → UnitState
first_unit_of n m r = if is_bit_module n r then rest_state_at n r m 0 else no_unit

abbrev pub first_unit_in : Circuit → ℕ → Option ModuleRecord → UnitState
first_unit_in n m None = no_unit
first_unit_in n m (Some r) = first_unit_of n m r

-- the state of a module at time 0, after the unit
abbrev pub first_unit : Circuit → ℕ → UnitState
first_unit n m = first_unit_in n m (module_at n m)

abbrev pub first_entries_in : Circuit → ℕ → Option ModuleRecord → List (ℕ × ℕ)
first_entries_in n m None = []
first_entries_in n m (Some r) = fired_at (output_ports_of r) (departing n (output_ports_of r) (state n m 0))

-- what a module schedules at time 0
abbrev pub first_entries : Circuit → ℕ → List (ℕ × ℕ)
first_entries n m = first_entries_in n m (module_at n m)

abbrev pub is_below : ℕ → Driver → Bool
is_below modules Nothing = true
is_below modules Stimulus = true
is_below modules (Port m p) = nat_lt m.0 modules

-- the first change of a wire of width 1 is at a time
abbrev pub is_first_bit : Circuit → Driver → ℕ → ℕ → Bool
is_first_bit n d w time = is_first n d w time && not (is_data n w)

-- the modules below a number are settled: their states, and the first changes of the wires of width 1 that they drive
pub record IsSettled (n : Circuit) (modules : ℕ) (states : List AutomatonState) (wheel : List (List ℕ)) : Type 0 where
  pub places : length states ≡ modules
  pub each : (m : ℕ) → m < modules → state_at states m ≡ number_of (first_unit n m)
  pub slots : (w k : ℕ) → k < length wheel → listed w (slice_index_or wheel k []) ≡ bit (is_below modules (driver n w) && is_first_bit n (driver n w) w (k + 1))

-- the levels at the ports of the modules below a number
pub record AreFirstLevels (n : Circuit) (modules : ℕ) (levels : List PortLevels) : Type 0 where
  pub places : length levels ≡ modules
  pub each : (m : ℕ) (r : ModuleRecord) → m < modules → module_at n m ≡ Some r → levels_at levels m ≡ levels_code (state n m 0)
