-- A simulation of a netlist of any widths.
use Rattle.std.specs.Prelude.{◌≡◌, ℕ, ◌+◌, ◌<◌, true, false, List, [], Option, Some, None, length, ◌==◌, if◌then◌else◌}
use Rattle.mp_records.specs.declared.module_record.ModuleRecord.{ModuleRecord}
use Rattle.mp_netlist.specs.Circuit.{Circuit, IsCircuit, module_at, module_width}
use Rattle.mp_kernel.specs.events.EventWheels.{AreEmpty}
use Rattle.mp_simulation.specs.bits.Scopes.{Scope}
use Rattle.mp_simulation.specs.bits.Simulators.{next_slot}
use Rattle.mp_simulation.specs.bits.Simulations.{copy_slot, IsSoundRun, IsIdle, IsRunning}
use Rattle.mp_simulation.specs.bits.WholeRuns.{is_number, IsWhole, AreSet}
use Rattle.mp_kernel.specs.declared.datapath.level_change.LevelChange.{LevelChange}
use Rattle.mp_simulation.specs.declared.units.netlist_simulation.NetlistSimulation.{NetlistSimulation}
use Rattle.mp_simulation.specs.units.DataLevels.{is_data, is_bit_wire}
use Rattle.mp_simulation.specs.units.DataWheels.{data_slot, AreDataWires, AreLevelsSet}
use Rattle.mp_simulation.specs.units.DataSeats.{AreDataModules}

-- numbers are those of wires and of delayed copies: copies of wires of width 1 stand after such, and copies of wires with data after such
pub record AreSplit (n : Circuit) (scope : Scope) (before data_before : ℕ → Option ℕ) (numbers : ℕ) : Type 0 where
  pub bits : (x : ℕ) → x < numbers → is_data n (scope.source x).0 ≡ false → is_number scope before x ≡ true
  pub with_data : (x : ℕ) → x < numbers → is_data n (scope.source x).0 ≡ true → data_before x ≡ None → scope.source x ≡ (x, 0)
  pub wires : (w : ℕ) → is_data n w ≡ true → (scope.source w ≡ (w, 0)) × (data_before w ≡ None)
  pub data_copies : (x y : ℕ) → data_before x ≡ Some y → is_data n (scope.source x).0 ≡ true
  pub bit_copies : (x y : ℕ) → before x ≡ Some y → is_data n (scope.source x).0 ≡ false

-- the unit t is over: all modules have answered up to t, and each wire has its wave up to t
pub record IsSimulated (n : Circuit) (t : ℕ) (s : NetlistSimulation) : Type 0 where
  pub scope : Scope
  pub before : ℕ → Option ℕ
  pub data_before : ℕ → Option ℕ
  pub sound : IsSoundRun s.bits
  pub running : IsRunning n scope before t s.bits
  pub whole : IsWhole n scope before t
  pub own : (w u : ℕ) → scope.owns w u ≡ scope.traces w
  pub traces : (w : ℕ) → scope.traces w ≡ is_bit_wire n w
  pub known : (m : ℕ) (r : ModuleRecord) → module_at n m ≡ Some r → scope.known m ≡ t + 1
  pub places : length s.bits.simulator.states.items ≡ length n.modules
  pub seats : (m : ℕ) (r : ModuleRecord) → module_at n m ≡ Some r → scope.place m ≡ (if module_width n r == 1 then Some m else None)
  pub waves : length s.bits.simulator.waves ≡ length n.wires
  pub split : AreSplit n scope before data_before (length s.bits.simulator.fanout)
  pub wires : AreDataWires n scope.source data_before (length s.bits.simulator.fanout) t s.wires
  pub modules : AreDataModules n scope (length s.bits.simulator.fanout) (length s.bits.simulator.states.items) (length s.bits.simulator.wheel) (length s.wires.wheel) t s.modules

-- what stimuli change at a time
pub record AreStimuli (n : Circuit) (set : List ℕ) (changes : List LevelChange) (time : ℕ) : Type 0 where
  pub bits : (scope : Scope) → ((w : ℕ) → scope.traces w ≡ is_bit_wire n w) → AreSet n scope set time
  pub levels : AreLevelsSet n changes time

-- it can go through a unit in which these are set
pub record CanPass (set : List ℕ) (levels : List LevelChange) (time : ℕ) (s : NetlistSimulation) : Type 0 where
  pub n : Circuit
  pub ok : IsCircuit n
  pub t : ℕ
  pub now : time ≡ t + 1
  pub is : IsSimulated n t s
  pub stimuli : AreStimuli n set levels time

-- nothing changes in the next unit that isn't set from outside
pub record IsStill (s : NetlistSimulation) : Type 0 where
  pub wires : next_slot s.bits.simulator ≡ []
  pub copies : copy_slot s.bits.copies 0 ≡ []
  pub changes : data_slot s.wires.wheel 0 ≡ []

-- nothing changes in any unit to come that isn't set from outside
pub record IsAtRest (s : NetlistSimulation) : Type 0 where
  pub bits : IsIdle s.bits
  pub changes : AreEmpty s.wires.wheel

-- a unit of some netlist is over, which has a slot for a module of this number
pub record CanTell (module_number : ℕ) (s : NetlistSimulation) : Type 0 where
  pub n : Circuit
  pub ok : IsCircuit n
  pub t : ℕ
  pub is : IsSimulated n t s
  pub within : module_number < length n.modules

-- a simulation keeps which inputs read each number, what stands next after it, and what each module drives; its wheels have as many units, and
-- the modules with data keep their places
pub record HasKeptNumbers (s new : NetlistSimulation) : Type 0 where
  pub rows : new.bits.simulator.fanout ≡ s.bits.simulator.fanout
  pub outputs : new.bits.simulator.outputs ≡ s.bits.simulator.outputs
  pub next : new.bits.copies.next.items ≡ s.bits.copies.next.items
  pub data_next : new.wires.next.items ≡ s.wires.next.items
  pub units : length new.bits.simulator.wheel ≡ length s.bits.simulator.wheel
  pub copy_units : length new.bits.copies.wheel ≡ length s.bits.copies.wheel
  pub change_units : length new.wires.wheel ≡ length s.wires.wheel
  pub places : new.modules.places ≡ s.modules.places
  pub seats : length new.modules.modules.items ≡ length s.modules.modules.items
