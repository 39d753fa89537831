-- Modules with data at time 0.
use Rattle.std.specs.Prelude.{◌≡◌, ℕ, ◌+◌, ◌<◌, ◌≤◌, Bool, true, false, not, List, [], ◌∷◌, ◌++◌, All, Option, Some, None, is_some, length, slice_index_or, ◌==◌, ◌&&◌, if◌then◌else◌}
use Rattle.std.specs.List.{count_by}
use Rattle.mp_modules.specs.Memories.{output_of}
use Rattle.mp_records.specs.declared.module_record.ModuleRecord.{ModuleRecord}
use Rattle.mp_records.specs.declared.ports.Output.{Output}
use Rattle.mp_netlist.specs.Circuit.{Circuit, wire_at, module_at}
use Rattle.mp_netlist.specs.Drivers.{driver}
use Rattle.mp_model.specs.Levels.{initial_of, built}
use Rattle.mp_model.specs.Waves.{level, state}
use Rattle.mp_modules.specs.automata.Codes.{bit}
use Rattle.mp_kernel.specs.declared.events.output_port.OutputPort.{OutputPort}
use Rattle.mp_kernel.specs.events.Firing.{no_port}
use Rattle.mp_simulation.specs.bits.Schedules.{output_port_of}
use Rattle.mp_simulation.specs.bits.Beginnings.{is_first}
use Rattle.mp_kernel.specs.declared.datapath.level_change.LevelChange.{LevelChange}
use Rattle.mp_kernel.specs.declared.datapath.data_module.DataModule.{DataModule}
use Rattle.mp_modules.specs.storage.DataParts.{data_part, outputs_in}
use Rattle.mp_kernel.specs.datapath.LevelWheels.{scheduled, entry_if}
use Rattle.mp_kernel.specs.datapath.DataFiring.{place_at, module_at as data_module_at, ArePlaced}
use Rattle.mp_simulation.specs.units.DataLevels.{is_data, changes_of}
use Rattle.mp_simulation.specs.units.DataWheels.{data_slot}
use Rattle.mp_simulation.specs.units.DataSeats.{drives_data, bit_ports_of, level_port_of}
use Rattle.mp_simulation.specs.declared.run.seating.Seating.{Seating}
use Rattle.mp_simulation.specs.run.Widths.{is_bit_module}
use Rattle.mp_simulation.specs.run.Settling.{is_below}

-- the wire has data
abbrev pub has_data_at : Circuit → Option ℕ → Bool
has_data_at n None = false
has_data_at n (Some w) = is_data n w

-- a level isn't the initial one of the wire
abbrev pub level_departs_from : Circuit → Option ℕ → ℕ → Bool
level_departs_from n None level = false
level_departs_from n (Some w) level = not (initial_of (wire_at n w) == level)

abbrev pub level_departs : Circuit → OutputPort → ℕ → Bool
level_departs n port level = level_departs_from n port.wire level

-- an output, if its wire has data
abbrev pub level_output_of : Circuit → Output → OutputPort
level_output_of n o = if drives_data n o.wire then output_port_of o else no_port

-- a module with data at time 0, its inputs reading these numbers
abbrev pub data_module : Circuit → ℕ → ModuleRecord → List (Option ℕ) → DataModule
data_module n m r inputs = record { part = data_part (built n r); outputs = outputs_in (state n m 0); inputs = inputs; ports = record { level = level_port_of n r; bits = bit_ports_of n r } }

-- what comes of it into the level wheel: its level after its delay, if that isn't the wire's initial one
abbrev pub first_levels : Circuit → ℕ → ModuleRecord → List (ℕ × LevelChange)
first_levels n m r = entry_if (level_departs n (level_port_of n r) (output_of (state n m 0) 0)) (level_port_of n r) (output_of (state n m 0) 0)

abbrev pub seated_in : Circuit → ℕ → List (Option ℕ) → Option ModuleRecord → List DataModule
seated_in n m inputs None = []
seated_in n m inputs (Some r) = if is_bit_module n r then [] else data_module n m r inputs ∷ []

abbrev pub place_in : Circuit → ℕ → Option ModuleRecord → Option ℕ
place_in n k None = None
place_in n k (Some r) = if is_bit_module n r then None else Some k

abbrev pub levels_in : Circuit → ℕ → Option ModuleRecord → List (ℕ × LevelChange)
levels_in n m None = []
levels_in n m (Some r) = if is_bit_module n r then [] else first_levels n m r

-- the place of a module is added, with the module, if it has data
pub record Seats (n : Circuit) (m : ℕ) (inputs : List (Option ℕ)) (old new : Seating) : Type 0 where
  pub modules : new.modules.modules.items ≡ old.modules.modules.items ++ seated_in n m inputs (module_at n m)
  pub places : new.modules.places.items ≡ old.modules.places.items ++ place_in n (length old.modules.modules.items) (module_at n m) ∷ []
  pub wheel : new.wheel ≡ scheduled old.wheel (levels_in n m (module_at n m))
  pub units : length new.wheel ≡ length old.wheel

-- the module at a place has data and is in its state at time 0
pub record IsSeatedAt (n : Circuit) (q : ℕ) (inputs : List (Option ℕ)) (d : DataModule) : Type 0 where
  pub part : ModuleRecord
  pub stands : module_at n q ≡ Some part
  pub wide : is_bit_module n part ≡ false
  pub is : d ≡ data_module n q part inputs

-- a module of this number has a place
pub record HasPlaceOf (places : List (Option ℕ)) (k : ℕ) : Type 0 where
  pub place : ℕ
  pub is : place_at places place ≡ Some k

-- the first change of a wire with data is at a time
abbrev pub is_first_level : Circuit → ℕ → ℕ → Bool
is_first_level n w time = is_first n (driver n w) w time && is_data n w

-- a change has a wire, with its level so many units after the next
pub record IsFirstLevel (n : Circuit) (k : ℕ) (c : LevelChange) : Type 0 where
  pub level : c.level ≡ level n c.number (k + 1)
  pub wire : c.number < length n.wires

-- no output has a longer delay
abbrev pub AreOutputsWithin : Circuit → ℕ → Type 0
AreOutputsWithin n longest = (m : ℕ) (r : ModuleRecord) → module_at n m ≡ Some r → All (λ (o : Output). o.delay ≤ longest) r.outputs

-- the modules with data below a number have their places, reading numbers by port, and the wheel has the first changes of the wires with data
-- that they drive
pub record IsSeated (n : Circuit) (modules : ℕ) (inputs : List (List (Option ℕ))) (s : Seating) : Type 0 where
  pub long : length s.modules.places.items ≡ modules
  pub few : length s.modules.modules.items ≤ modules
  pub placed : ArePlaced s.modules.places.items (length s.modules.modules.items)
  pub seats : (q k : ℕ) → place_at s.modules.places.items q ≡ Some k → IsSeatedAt n q (slice_index_or inputs q []) (data_module_at s.modules.modules.items k)
  pub counted : length s.modules.modules.items ≡ count_by is_some s.modules.places.items
  pub each : (k : ℕ) → k < length s.modules.modules.items → HasPlaceOf s.modules.places.items k
  pub whole : (m : ℕ) (r : ModuleRecord) → m < modules → module_at n m ≡ Some r → is_bit_module n r ≡ false → is_some (place_at s.modules.places.items m) ≡ true
  pub slots : (w k : ℕ) → k < length s.wheel → changes_of w (data_slot s.wheel k) ≡ bit (is_below modules (driver n w) && is_first_level n w (k + 1))
  pub levels : (k : ℕ) → All (IsFirstLevel n k) (data_slot s.wheel k)
