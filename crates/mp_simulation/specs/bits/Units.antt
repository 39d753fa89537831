-- A simulator of a netlist before a unit, and within it.
use Rattle.std.specs.Prelude.{◌≡◌, ℕ, ◌+◌, ◌<◌, ◌≤◌, true, false, List, [], Some, length, map, ◌++◌, ◌&&◌}
use Rattle.mp_records.specs.declared.ids.ModuleId.{ModuleId}
use Rattle.mp_records.specs.declared.module_record.ModuleRecord.{ModuleRecord}
use Rattle.mp_records.specs.Outputs.{delay_of}
use Rattle.mp_netlist.specs.declared.driver.Driver.TheVariants.{Port}
use Rattle.mp_netlist.specs.Circuit.{Circuit, module_at, Drives}
use Rattle.mp_netlist.specs.Drivers.{driver}
use Rattle.mp_model.specs.Levels.{built, inputs_by}
use Rattle.mp_model.specs.Waves.{level, state}
use Rattle.mp_modules.specs.declared.automata.automaton.Automaton.TheVariants.{Sleep}
use Rattle.mp_modules.specs.automata.Automata.{automaton_of}
use Rattle.mp_modules.specs.automata.Phases.{phase_of}
use Rattle.mp_modules.specs.automata.BitModules.{AreBits, IsOfBits, IsBitState}
use Rattle.mp_modules.specs.automata.Codes.{bit, no_events}
use Rattle.mp_modules.specs.automata.PortLevels.{levels_code}
use Rattle.mp_kernel.specs.events.Adding.{listed}
use Rattle.mp_kernel.specs.events.Toggling.{wave_at}
use Rattle.mp_kernel.specs.events.Ports.{HasPorts}
use Rattle.mp_kernel.specs.events.Firing.{UnitState, AreNumbered, ports_at}
use Rattle.mp_kernel.specs.events.LevelFlips.{levels_at}
use Rattle.mp_simulation.specs.declared.bits.simulator.Simulator.{Simulator}
use Rattle.mp_simulation.specs.bits.Changes.{change_at}
use Rattle.mp_simulation.specs.bits.PortEvents.{source_of, AreHeard}
use Rattle.mp_simulation.specs.bits.Advancing.{unit_state_at}
use Rattle.mp_simulation.specs.bits.Schedules.{HasPlace, output_ports_of}
use Rattle.mp_simulation.specs.bits.Scopes.{Scope, is_expected}
use Rattle.mp_simulation.specs.bits.Simulators.{slot_at}
use Rattle.mp_simulation.specs.bits.Traces.{IsTrace}

-- at the place of an active module: its ports have width 1, the inputs there read what it reads, the outputs are its own, and their wires'
-- changes are made here
pub record IsSeat (n : Circuit) (scope : Scope) (s : Simulator) (m q : ℕ) (r : ModuleRecord) : Type 0 where
  pub within : q < length s.states.items
  pub active : scope.is_active q ≡ true
  pub of_bits : IsOfBits (built n r)
  pub state_bits : (u : ℕ) → IsBitState (built n r) (state n m u)
  pub input_bits : (u : ℕ) → AreBits (inputs_by n (level n) r u)
  pub reads : map scope.source (scope.inputs q) ≡ map source_of r.inputs
  pub drives : ports_at s.outputs q ≡ output_ports_of r
  pub owned : (w p u : ℕ) → Drives n m p w → scope.known m < u → scope.owns w u ≡ true

-- each place has the rows of its inputs; active modules have places, and active places have modules
pub record IsLaidOut (n : Circuit) (scope : Scope) (s : Simulator) : Type 0 where
  pub ports : (q : ℕ) → HasPorts s.fanout q (scope.inputs q)
  pub seats : (m q : ℕ) (r : ModuleRecord) → module_at n m ≡ Some r → scope.place m ≡ Some q → IsSeat n scope s m q r
  pub placed : (q : ℕ) → q < length s.states.items → scope.is_active q ≡ true → HasPlace n scope.place q

-- waves that are made here have the changes of their wires up to t
abbrev pub HaveWaves : Circuit → Scope → ℕ → Simulator → Type 0
HaveWaves n scope t s = (w : ℕ) → w < length s.waves → scope.traces w ≡ true → IsTrace (level n w) t (wave_at s.waves w)

-- the slots after t have the changes that are known, each once, and no others
abbrev pub HaveEvents : Circuit → Scope → ℕ → Simulator → Type 0
HaveEvents n scope t s = (w k : ℕ) → k < length s.wheel → listed w (slot_at s k) ≡ bit (is_expected n scope w (t + 1 + k))

-- and further changes aren't known
abbrev pub HaveRoom : Circuit → Scope → ℕ → Simulator → Type 0
HaveRoom n scope t s = (w p : ℕ) (m : ModuleId) (r : ModuleRecord) → driver n w ≡ Port m p → module_at n m.0 ≡ Some r →
    scope.known m.0 + delay_of r p ≤ t + 1 + length s.wheel

-- the levels at the ports of active modules are those of t
abbrev pub HaveLevels : Circuit → Scope → ℕ → Simulator → Type 0
HaveLevels n scope t s = (m q : ℕ) (r : ModuleRecord) → module_at n m ≡ Some r → scope.place m ≡ Some q → levels_at s.levels.items q ≡ levels_code (state n m t)

-- what holds before a unit and within it: active modules have answered up to t, and their states and waves are told by two further times
pub record Stands (n : Circuit) (scope : Scope) (t now : ℕ) (unit_of : Circuit → ModuleRecord → ℕ → ℕ → UnitState) (s : Simulator) : Type 0 where
  pub layout : IsLaidOut n scope s
  pub units : ℕ → UnitState
  pub numbered : AreNumbered s.states.items units
  pub asleep : (q : ℕ) → scope.is_active q ≡ false → (units q).automaton ≡ Sleep
  pub active : (m q : ℕ) (r : ModuleRecord) → module_at n m ≡ Some r → scope.place m ≡ Some q → units q ≡ unit_of n r m t
  pub levels : HaveLevels n scope t s
  pub answered : (m q : ℕ) → scope.place m ≡ Some q → scope.known m ≡ t + 1
  pub waves : HaveWaves n scope now s
  pub events : HaveEvents n scope now s
  pub room : HaveRoom n scope now s

-- the state of a module after t, before the next unit
abbrev pub rest_state_at : Circuit → ModuleRecord → ℕ → ℕ → UnitState
rest_state_at n r m t = record { automaton = automaton_of (built n r); phase = phase_of (built n r) (state n m t); events = no_events }

-- the unit t is over
pub record IsBefore (n : Circuit) (scope : Scope) (t : ℕ) (s : Simulator) : Type 0 where
  pub stands : Stands n scope t t rest_state_at s
  pub due : s.due.items ≡ []

-- the wires of the unit after t have toggled, and the modules have had their events
abbrev pub IsDuring : Circuit → Scope → ℕ → Simulator → Type 0
IsDuring n scope t s = Stands n scope t (t + 1) unit_state_at s

-- the wires that are listed to toggle in the unit after t are those that change then and whose waves are made here; nothing is listed twice; and
-- active modules hear all changes of what they read
pub record AreDue (n : Circuit) (scope : Scope) (t : ℕ) (wires others : List ℕ) : Type 0 where
  pub toggled : (w : ℕ) → listed w wires ≡ bit (change_at n w (t + 1) && scope.traces w)
  pub once : (x : ℕ) → listed x (wires ++ others) ≤ 1
  pub heard : (q : ℕ) → scope.is_active q ≡ true → AreHeard n scope.source (wires ++ others) (t + 1) (scope.inputs q)
