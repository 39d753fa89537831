-- What a simulation of an excerpt has, in terms of the netlist.
use Rattle.std.specs.Prelude.{◌≡◌, ℕ, ◌+◌, ◌<◌, ◌≤◌, Bool, true, [], All, Some, None, is_some, length, slice_index}
use Rattle.mp_wave.specs.Waveform.{wave_upto}
use Rattle.mp_records.specs.declared.ids.ModuleId.{ModuleId}
use Rattle.mp_records.specs.declared.module_record.ModuleRecord.{ModuleRecord}
use Rattle.mp_records.specs.Outputs.{delay_of}
use Rattle.mp_netlist.specs.declared.driver.Driver.TheVariants.{Port}
use Rattle.mp_netlist.specs.Circuit.{Circuit, IsCircuit, module_at}
use Rattle.mp_netlist.specs.Drivers.{driver}
use Rattle.mp_model.specs.Waves.{state}
use Rattle.mp_modules.specs.declared.automata.automaton.Automaton.TheVariants.{Sleep}
use Rattle.mp_modules.specs.automata.Codes.{no_events}
use Rattle.mp_modules.specs.automata.PortLevels.{levels_code}
use Rattle.mp_kernel.specs.events.Adding.{state_at}
use Rattle.mp_kernel.specs.events.Toggling.{wave_at}
use Rattle.mp_kernel.specs.events.Firing.{UnitState, HasSlot, number_of, ports_at}
use Rattle.mp_kernel.specs.events.LevelFlips.{levels_at}
use Rattle.mp_simulation.specs.declared.bits.simulator.Simulator.{Simulator}
use Rattle.mp_simulation.specs.bits.Schedules.{output_ports_of}
use Rattle.mp_simulation.specs.bits.Simulators.{IsBelow}
use Rattle.mp_simulation.specs.bits.Simulations.{IsSoundRun}
use Rattle.mp_simulation.specs.bits.Units.{rest_state_at}
use Rattle.mp_simulation.specs.bits.Copies.{AreChained}
use Rattle.mp_simulation.specs.bits.Traces.{IsTrace}
use Rattle.mp_kernel.specs.datapath.DataModules.{CanFire}
use Rattle.mp_kernel.specs.datapath.DataFiring.{place_at, module_at as data_module_at, ArePlaced}
use Rattle.mp_simulation.specs.declared.units.data_modules.DataModules.{DataModules}
use Rattle.mp_simulation.specs.declared.units.data_wires.DataWires.{DataWires}
use Rattle.mp_simulation.specs.declared.units.netlist_simulation.NetlistSimulation.{NetlistSimulation}
use Rattle.mp_simulation.specs.units.DataLevels.{is_data, is_bit_wire}
use Rattle.mp_simulation.specs.units.DataSeats.{IsDataSeat}
use Rattle.mp_simulation.specs.units.DataWaves.{building_at}
use Rattle.mp_simulation.specs.units.DataWheels.{AreChangesBelow}
use Rattle.mp_simulation.specs.units.NetlistSimulations.{IsSimulated}
use Rattle.mp_active.specs.excerpt.Excerpts.{excerpt, ArePortsOn}
use Rattle.mp_active.specs.excerpt.Numberings.{Numbering, HasNumbers, ReadsNumbers, is_bit_number, place_of, scope_of}
use Rattle.mp_active.specs.excerpt.Levels.{shown_level, shown_late, IsEventShown, IsCopyShown, IsChangeShown, AreLevelsShown}

-- an active module of width 1 has its state after t, with no event, and the levels at its ports; its inputs read what it reads
pub record IsSeatShown (n : Circuit) (numbering : Numbering) (t m : ℕ) (r : ModuleRecord) (s : Simulator) : Type 0 where
  pub reads : ReadsNumbers numbering m r
  pub numbers : All (λ x. is_bit_number n numbering x ≡ true) (numbering.inputs m)
  pub drives : ports_at s.outputs m ≡ output_ports_of r
  pub word : state_at s.states.items m ≡ number_of (rest_state_at n r m t)
  pub levels : levels_at s.levels.items m ≡ levels_code (state n m t)

-- the state is one in which nothing is ever done
pub record IsAsleep (word : ℕ) : Type 0 where
  pub unit : UnitState
  pub sleeps : unit.automaton ≡ Sleep
  pub quiet : unit.events ≡ no_events
  pub is : word ≡ number_of unit

-- the modules of width 1, their wires, and the delayed copies of these
pub record AreBitsShown (n : Circuit) (active on : ℕ → Bool) (numbering : Numbering) (t : ℕ) (s : NetlistSimulation) : Type 0 where
  pub sound : IsSoundRun s.bits
  pub places : length s.bits.simulator.states.items ≡ length n.modules
  pub wires : length s.bits.simulator.waves ≡ length n.wires
  pub idle : s.bits.simulator.due.items ≡ []
  pub seats : (m : ℕ) (r : ModuleRecord) → module_at n m ≡ Some r → place_of n active m ≡ Some m → IsSeatShown n numbering t m r s.bits.simulator
  pub asleep : (q : ℕ) → q < length n.modules → place_of n active q ≡ None → IsAsleep (state_at s.bits.simulator.states.items q)
  pub traces : (w : ℕ) → is_bit_wire n w ≡ true → IsTrace (shown_level n on w) t (wave_at s.bits.simulator.waves w)
  pub room : (w p : ℕ) (m : ModuleId) (r : ModuleRecord) → driver n w ≡ Port m p → active m.0 ≡ true → module_at n m.0 ≡ Some r → delay_of r p ≤ length s.bits.simulator.wheel
  pub events : (w k : ℕ) → k < length s.bits.simulator.wheel → IsEventShown n active t s.bits.simulator w k
  pub copies : (x k : ℕ) → k < length s.bits.copies.wheel → IsCopyShown n on numbering t s.bits.copies x k

-- the wires with data, and their copies
pub record AreWiresShown (n : Circuit) (active on : ℕ → Bool) (numbering : Numbering) (numbers t : ℕ) (s : DataWires) : Type 0 where
  pub places : length s.levels.items ≡ numbers
  pub next : length s.next.items ≡ numbers
  pub chained : AreChained numbering.source numbering.data_before s.next.items
  pub below : All (IsBelow numbers) s.next.items
  pub within : All (HasSlot (length s.wheel)) s.next.items
  pub some : 0 < length s.wheel
  pub numbered : AreChangesBelow numbers s.wheel
  pub changes : (x k : ℕ) → x < numbers → k < length s.wheel → IsChangeShown n active on numbering s.next.items t s.wheel x k
  pub change_levels : AreLevelsShown n numbering t s.wheel
  pub levels : (x : ℕ) → x < numbers → slice_index s.levels.items x ≡ shown_late n on (numbering.source x) t
  pub wires : length s.waves.items ≡ length n.wires
  pub waves : (w : ℕ) → is_data n w ≡ true → (building_at s.waves.items w).wave ≡ wave_upto (shown_level n on w) t
  pub over : (w : ℕ) → (building_at s.waves.items w).next < t + 2

-- a module with data that is active, at its place
pub record IsDataSeatShown (n : Circuit) (active : ℕ → Bool) (numbering : Numbering) (numbers events changes t q k : ℕ) (s : DataModules) : Type 0 where
  pub awake : active q ≡ true
  pub seat : IsDataSeat n (scope_of n active numbering t) numbers events changes t q (data_module_at s.modules.items k)

-- all of them; events and changes are how many units the wheels have
pub record AreModulesShown (n : Circuit) (active : ℕ → Bool) (numbering : Numbering) (numbers events changes t : ℕ) (s : DataModules) : Type 0 where
  pub long : length s.places.items ≡ length n.modules
  pub placed : ArePlaced s.places.items (length s.modules.items)
  pub fit : All (CanFire numbers events changes) s.modules.items
  pub seats : (q k : ℕ) → place_at s.places.items q ≡ Some k → IsDataSeatShown n active numbering numbers events changes t q k s
  pub whole : (m : ℕ) (r : ModuleRecord) → module_at n m ≡ Some r → active m ≡ true → place_of n active m ≡ None → is_some (place_at s.places.items m) ≡ true

-- the unit t is over, and the simulation has the active modules of a netlist and its wires that are on
pub record Shows (n : Circuit) (active on : ℕ → Bool) (numbering : Numbering) (t : ℕ) (s : NetlistSimulation) : Type 0 where
  pub numbers : HasNumbers n numbering s
  pub bits : AreBitsShown n active on numbering t s
  pub wires : AreWiresShown n active on numbering (length s.bits.simulator.fanout) t s.wires
  pub modules : AreModulesShown n active numbering (length s.bits.simulator.fanout) (length s.bits.simulator.wheel) (length s.wires.wheel) t s.modules

-- below the horizon this is a simulation of the excerpt
abbrev pub ShowingSimulates : Type 0
ShowingSimulates = (n : Circuit) → IsCircuit n → (active on : ℕ → Bool) → ArePortsOn n active on → (numbering : Numbering) (t : ℕ) (s : NetlistSimulation) → t < n.horizon →
    Shows n active on numbering t s → IsSimulated (excerpt n active on) t s

-- and each simulation of the excerpt is this, in a numbering
abbrev pub SimulationsShow : Type 0
SimulationsShow = (n : Circuit) → IsCircuit n → (active on : ℕ → Bool) → ArePortsOn n active on → (t : ℕ) (s : NetlistSimulation) → t < n.horizon →
    IsSimulated (excerpt n active on) t s → (numbering : Numbering) × Shows n active on numbering t s
