-- The delays of a netlist.
use Rattle.std.specs.Prelude.{◌≡◌, ◌≤◌, ◌⊎◌, ℕ, List, [], Option, Some, None, map, filter, fold, is_some, unwrap_or}
use Rattle.std.specs.List.{flat_map}
use Rattle.mp_modules.specs.Delays.{lesser}
use Rattle.mp_records.specs.declared.module_record.ModuleRecord.{ModuleRecord}
use Rattle.mp_records.specs.declared.ports.Output.{Output}
use Rattle.mp_records.specs.Outputs.{delay_of}
use Rattle.mp_netlist.specs.Circuit.{Circuit, IsCircuit, Drives}

-- the delays of the outputs that have a wire
abbrev pub delays_of : List Output → List ℕ
delays_of outputs = map (λ (o : Output). o.delay) (filter (λ (o : Output). is_some o.wire) outputs)

abbrev pub delays_in : Option ModuleRecord → List ℕ
delays_in None = []
delays_in (Some r) = delays_of r.outputs

-- the least delay over all outputs that have a wire, and the horizon where none has
unfoldable pub least_delay : Circuit → ℕ
least_delay n = unwrap_or (fold lesser None (flat_map delays_in n.modules)) n.horizon

-- a port that drives a wire has the delay
pub record IsPortDelay (n : Circuit) (delay : ℕ) : Type 0 where
  pub part : ℕ
  pub port : ℕ
  pub wire : ℕ
  pub drives : Drives n part port wire
  pub same : delay_of drives.part port ≡ delay

-- no port drives a wire
abbrev pub NoPortDrives : Circuit → Type 0
NoPortDrives n = (m p w : ℕ) → Drives n m p w → ⊥

-- the least delay is at least 1, no port that drives a wire has a lesser one, and one has it; or it is the horizon, and no port drives a wire
pub record IsLeastDelay (n : Circuit) (delay : ℕ) : Type 0 where
  pub positive : 1 ≤ delay
  pub least : (m p w : ℕ) (drives : Drives n m p w) → delay ≤ delay_of drives.part p
  pub attained : IsPortDelay n delay ⊎ ((delay ≡ n.horizon) × NoPortDrives n)

abbrev pub DelaysAreLeast : Type 0
DelaysAreLeast = (n : Circuit) → IsCircuit n → IsLeastDelay n (least_delay n)
