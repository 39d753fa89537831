-- What modules of width 1 schedule when they fire.
use Rattle.std.specs.Prelude.{◌≡◌, ℕ, ◌+◌, ◌-◌, ◌<◌, ◌≤◌, Bool, true, false, List, [], All, Option, Some, length, slice_index_or, option_map, ◌==◌, ◌&&◌}
use Rattle.mp_records.specs.declared.ids.WireId.{WireId}
use Rattle.mp_records.specs.declared.ids.ModuleId.{ModuleId}
use Rattle.mp_records.specs.declared.ports.Output.{Output}
use Rattle.mp_records.specs.declared.module_record.ModuleRecord.{ModuleRecord}
use Rattle.mp_records.specs.Outputs.{output_at, delay_of}
use Rattle.mp_netlist.specs.Circuit.{Circuit, IsCircuit, module_at, Drives}
use Rattle.mp_netlist.specs.declared.driver.Driver.TheVariants.{Port}
use Rattle.mp_netlist.specs.Drivers.{driver}
use Rattle.mp_model.specs.Waves.{state}
use Rattle.mp_modules.specs.declared.automata.toggles.Toggles.{Toggles}
use Rattle.mp_modules.specs.automata.BitModules.{toggles_between}
use Rattle.mp_modules.specs.automata.Codes.{bit}
use Rattle.mp_kernel.specs.declared.events.output_port.OutputPort.{OutputPort}
use Rattle.mp_kernel.specs.declared.events.output_ports.OutputPorts.{OutputPorts}
use Rattle.mp_kernel.specs.events.Adding.{listed}
use Rattle.mp_kernel.specs.events.Firing.{UnitState, reaction, scheduled, ports_at, fired_by}
use Rattle.mp_simulation.specs.bits.Changes.{change_at}

abbrev pub number_of : WireId → ℕ
number_of w = w.0

abbrev pub output_port_of : Output → OutputPort
output_port_of o = record { wire = option_map number_of o.wire; delay = o.delay }

-- the outputs of a module as the simulator has them
abbrev pub output_ports_of : ModuleRecord → OutputPorts
output_ports_of r = record { first = output_port_of (output_at r 0); second = output_port_of (output_at r 1); third = output_port_of (output_at r 2) }

abbrev pub no_toggles : Toggles
no_toggles = record { first = false; second = false; third = false }

-- a module has the place
pub record HasPlace (n : Circuit) (place : ℕ → Option ℕ) (q : ℕ) : Type 0 where
  pub number : ℕ
  pub part : ModuleRecord
  pub stands : module_at n number ≡ Some part
  pub is : place number ≡ Some q

-- active modules have places, with their outputs and what comes of their states after t. Those of which an output toggles then are due,
-- each once. What isn't active at a place has no output that toggles
pub record IsFiring (n : Circuit) (place : ℕ → Option ℕ) (is_active : ℕ → Bool) (t : ℕ) (state_of : ℕ → UnitState) (ports : List OutputPorts) (due : List ℕ) : Type 0 where
  pub placed : All (λ q. is_active q ≡ true → HasPlace n place q) due
  pub asleep : (q : ℕ) → is_active q ≡ false → (reaction (state_of q)).toggles ≡ no_toggles
  pub drives : (m q : ℕ) (r : ModuleRecord) → module_at n m ≡ Some r → place m ≡ Some q → ports_at ports q ≡ output_ports_of r
  pub toggled : (m q : ℕ) (r : ModuleRecord) → module_at n m ≡ Some r → place m ≡ Some q →
      (reaction (state_of q)).toggles ≡ toggles_between (state n m t) (state n m (t + 1))
  pub once : (q : ℕ) → listed q due ≤ 1
  pub idle : (m q : ℕ) (r : ModuleRecord) → module_at n m ≡ Some r → place m ≡ Some q → listed q due ≡ 0 → (reaction (state_of q)).toggles ≡ no_toggles

-- when the modules that are due after t fire, a wire that an active module drives comes once more into just that slot in which its change is
-- that the module's output has then, if it has one
abbrev pub FiringSchedules : Type 0
FiringSchedules = (n : Circuit) → IsCircuit n → (place : ℕ → Option ℕ) (is_active : ℕ → Bool) (t : ℕ) (state_of : ℕ → UnitState) (ports : List OutputPorts) (due : List ℕ) (slots : List (List ℕ)) →
    IsFiring n place is_active t state_of ports due → (w p q k : ℕ) (m : ModuleId) (r : ModuleRecord) →
    driver n w ≡ Port m p → module_at n m.0 ≡ Some r → place m.0 ≡ Some q → 0 < delay_of r p → k < length slots →
    listed w (slice_index_or (scheduled slots (fired_by state_of ports due)) k []) ≡
    listed w (slice_index_or slots k []) + bit (change_at n w (t + 1 + delay_of r p) && (delay_of r p - 1 == k))

-- no active module drives the wire
abbrev pub IsUndrivenBy : Circuit → (ℕ → Option ℕ) → ℕ → Type 0
IsUndrivenBy n place w = (m p q : ℕ) → Drives n m p w → place m ≡ Some q → ⊥

-- and any other wire comes into no slot
abbrev pub FiringLeavesOthers : Type 0
FiringLeavesOthers = (n : Circuit) → IsCircuit n → (place : ℕ → Option ℕ) (is_active : ℕ → Bool) (t : ℕ) (state_of : ℕ → UnitState) (ports : List OutputPorts) (due : List ℕ) (slots : List (List ℕ)) →
    IsFiring n place is_active t state_of ports due → (w k : ℕ) → IsUndrivenBy n place w → k < length slots →
    listed w (slice_index_or (scheduled slots (fired_by state_of ports due)) k []) ≡ listed w (slice_index_or slots k [])
