-- Which modules read a wire.
use Rattle.std.specs.Prelude.{◌≡◌, ℕ, Some}
use Rattle.std.specs.List.{Contains}
use Rattle.mp_records.specs.declared.ports.Input.{Input}
use Rattle.mp_records.specs.declared.module_record.ModuleRecord.{ModuleRecord}
use Rattle.mp_netlist.specs.Circuit.{Circuit, module_at}

-- an input of the module is at the wire
pub record Reads (n : Circuit) (m w : ℕ) : Type 0 where
  pub part : ModuleRecord
  pub stands : module_at n m ≡ Some part
  pub port : Input
  pub input : Contains part.inputs port
  pub wire : port.wire.0 ≡ w
