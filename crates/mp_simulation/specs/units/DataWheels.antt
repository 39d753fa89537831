-- The changes to come of wires with data, and of their delayed copies.
use Rattle.std.specs.Prelude.{◌≡◌, ℕ, ◌+◌, ◌<◌, true, List, [], All, Option, Some, None, length, slice_index, slice_index_or, nat_lt, ◌&&◌}
use Rattle.mp_wave.specs.Waveform.{wave_upto}
use Rattle.mp_netlist.specs.declared.driver.Driver.{Driver}
use Rattle.mp_netlist.specs.declared.driver.Driver.TheVariants.{Nothing, Stimulus, Port}
use Rattle.mp_netlist.specs.Circuit.{Circuit, module_at}
use Rattle.mp_netlist.specs.Drivers.{driver}
use Rattle.mp_model.specs.Evaluations.{delay_in}
use Rattle.mp_model.specs.Waves.{level}
use Rattle.mp_modules.specs.automata.Codes.{bit}
use Rattle.mp_kernel.specs.declared.events.output_port.OutputPort.{OutputPort}
use Rattle.mp_kernel.specs.events.Firing.{HasSlot, copy_at}
use Rattle.mp_simulation.specs.bits.Changes.{change_at, late_change}
use Rattle.mp_simulation.specs.bits.Simulators.{IsBelow}
use Rattle.mp_simulation.specs.bits.Copies.{AreChained}
use Rattle.mp_simulation.specs.bits.WholeRuns.{is_stimulus}
use Rattle.mp_kernel.specs.declared.datapath.level_change.LevelChange.{LevelChange}
use Rattle.mp_simulation.specs.declared.units.data_wires.DataWires.{DataWires}
use Rattle.mp_simulation.specs.units.DataLevels.{is_data, late_level, changes_of, IsLevelAt}
use Rattle.mp_simulation.specs.units.DataWaves.{building_at}

abbrev pub data_slot : List (List LevelChange) → ℕ → List LevelChange
data_slot slots k = slice_index_or slots k []

abbrev pub driver_delay : Circuit → Driver → ℕ
driver_delay n Nothing = 0
driver_delay n Stimulus = 0
driver_delay n (Port m p) = delay_in (module_at n m.0) p

abbrev pub ahead_by : Circuit → List OutputPort → ℕ → Option ℕ → ℕ
ahead_by n next x None = driver_delay n (driver n x)
ahead_by n next x (Some y) = (copy_at next y).delay

-- by how many units the changes of a number are known before: of a copy by how much it is later than what it stands after, of a wire by the
-- delay of the port that drives it
abbrev pub ahead : Circuit → (ℕ → Option ℕ) → List OutputPort → ℕ → ℕ
ahead n before next x = ahead_by n next x (before x)

-- the slots after t have the changes that are known of numbers with data, each once, and no others, with their levels
pub record HaveLevels (n : Circuit) (source : ℕ → ℕ × ℕ) (before : ℕ → Option ℕ) (next : List OutputPort) (t : ℕ) (slots : List (List LevelChange)) : Type 0 where
  pub each : (x k : ℕ) → x < length next → k < length slots →
      changes_of x (data_slot slots k) ≡ bit ((late_change n (source x) (t + 1 + k) && is_data n (source x).0) && nat_lt k (ahead n before next x))
  pub levels : (k : ℕ) → All (IsLevelAt n source (t + 1 + k)) (data_slot slots k)

-- only numbers below a bound are in the slots
abbrev pub AreChangesBelow : ℕ → List (List LevelChange) → Type 0
AreChangesBelow bound slots = (k : ℕ) → All (λ (c : LevelChange). c.number < bound) (data_slot slots k)

-- these are the changes of wires with data that stimuli make at a time, each once
pub record AreLevelsSet (n : Circuit) (set : List LevelChange) (time : ℕ) : Type 0 where
  pub each : (w : ℕ) → changes_of w set ≡ bit ((change_at n w time && is_stimulus (driver n w)) && is_data n w)
  pub levels : All (λ (c : LevelChange). c.level ≡ level n c.number time) set

-- so many numbers have their levels, and what is next after them; the wheel has the changes to come of wires with data and of their copies; and
-- each wire with data has its wave up to t
pub record AreDataWires (n : Circuit) (source : ℕ → ℕ × ℕ) (before : ℕ → Option ℕ) (numbers t : ℕ) (s : DataWires) : Type 0 where
  pub places : length s.levels.items ≡ numbers
  pub next : length s.next.items ≡ numbers
  pub chained : AreChained source before s.next.items
  pub below : All (IsBelow numbers) s.next.items
  pub within : All (HasSlot (length s.wheel)) s.next.items
  pub some : 0 < length s.wheel
  pub numbered : AreChangesBelow numbers s.wheel
  pub changes : HaveLevels n source before s.next.items t s.wheel
  pub levels : (x : ℕ) → x < numbers → slice_index s.levels.items x ≡ late_level n (source x) t
  pub wires : length s.waves.items ≡ length n.wires
  pub waves : (w : ℕ) → is_data n w ≡ true → (building_at s.waves.items w).wave ≡ wave_upto (level n w) t
  pub over : (w : ℕ) → (building_at s.waves.items w).next < t + 2
