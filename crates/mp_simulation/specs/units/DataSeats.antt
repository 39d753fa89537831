-- Modules with data at their places.
use Rattle.std.specs.Prelude.{◌≡◌, ℕ, ◌<◌, Bool, true, false, List, [], ◌∷◌, All, Option, Some, None, is_some, length, map, if◌then◌else◌, zero, suc}
use Rattle.mp_records.specs.declared.ports.Output.{Output}
use Rattle.mp_records.specs.declared.ids.WireId.{WireId}
use Rattle.mp_records.specs.declared.module_record.ModuleRecord.{ModuleRecord}
use Rattle.mp_records.specs.Outputs.{output_at}
use Rattle.mp_netlist.specs.Circuit.{Circuit, module_at, Drives}
use Rattle.mp_model.specs.Levels.{built}
use Rattle.mp_model.specs.Waves.{state}
use Rattle.mp_kernel.specs.declared.events.output_port.OutputPort.{OutputPort}
use Rattle.mp_kernel.specs.declared.events.output_ports.OutputPorts.{OutputPorts}
use Rattle.mp_kernel.specs.events.Firing.{no_port}
use Rattle.mp_simulation.specs.bits.PortEvents.{source_of}
use Rattle.mp_simulation.specs.bits.Schedules.{output_port_of}
use Rattle.mp_simulation.specs.bits.Scopes.{Scope}
use Rattle.mp_kernel.specs.declared.datapath.data_module.DataModule.{DataModule}
use Rattle.mp_modules.specs.storage.DataParts.{any_part, outputs_in}
use Rattle.mp_kernel.specs.datapath.DataModules.{input_of, CanFire}
use Rattle.mp_kernel.specs.datapath.DataFiring.{place_at, module_at as data_module_at, ArePlaced}
use Rattle.mp_simulation.specs.declared.units.data_modules.DataModules.{DataModules}
use Rattle.mp_simulation.specs.units.DataLevels.{is_data}

abbrev pub drives_data : Circuit → Option WireId → Bool
drives_data n None = false
drives_data n (Some w) = is_data n w.0

-- the outputs of a module whose wires have width 1
abbrev pub bit_port_of : Circuit → Output → OutputPort
bit_port_of n o = if drives_data n o.wire then no_port else output_port_of o

abbrev pub bit_ports_of : Circuit → ModuleRecord → OutputPorts
bit_ports_of n r = record { first = bit_port_of n (output_at r 0); second = bit_port_of n (output_at r 1); third = bit_port_of n (output_at r 2) }

-- the first output of a module, if its wire has data
abbrev pub level_port_of : Circuit → ModuleRecord → OutputPort
level_port_of n r = if drives_data n (output_at r 0).wire then output_port_of (output_at r 0) else no_port

-- the number that an input reads, by port
abbrev pub number_at : List ℕ → ℕ → Option ℕ
number_at [] p = None
number_at (x ∷ xs) zero = Some x
number_at (x ∷ xs) (suc p) = number_at xs p

-- at the place of a module with data: its inputs read numbers, its ports are its own, only its first output has data, and its outputs are those
-- at t
pub record IsDataSeat (n : Circuit) (scope : Scope) (numbers events changes t q : ℕ) (m : DataModule) : Type 0 where
  pub record_of : ModuleRecord
  pub stands : module_at n q ≡ Some record_of
  pub inactive : scope.place q ≡ None
  pub does : any_part m.part ≡ built n record_of
  pub outputs : m.outputs ≡ outputs_in (state n q t)
  pub sources : map scope.source (scope.inputs q) ≡ map source_of record_of.inputs
  pub reads : (p : ℕ) → input_of m p ≡ number_at (scope.inputs q) p
  pub low : All (λ x. x < numbers) (scope.inputs q)
  pub bits : m.ports.bits ≡ bit_ports_of n record_of
  pub level : m.ports.level ≡ level_port_of n record_of
  pub first : (w p : ℕ) → Drives n q p w → is_data n w ≡ true → p ≡ 0
  pub fit : CanFire numbers events changes m

-- each place has the module with data of its number, if there is one; events and changes are how many units the wheels have
pub record AreDataModules (n : Circuit) (scope : Scope) (numbers places events changes t : ℕ) (s : DataModules) : Type 0 where
  pub long : length s.places.items ≡ places
  pub placed : ArePlaced s.places.items (length s.modules.items)
  pub fit : All (CanFire numbers events changes) s.modules.items
  pub seats : (q k : ℕ) → place_at s.places.items q ≡ Some k → IsDataSeat n scope numbers events changes t q (data_module_at s.modules.items k)
  pub whole : (m : ℕ) (r : ModuleRecord) → module_at n m ≡ Some r → scope.place m ≡ None → is_some (place_at s.places.items m) ≡ true
