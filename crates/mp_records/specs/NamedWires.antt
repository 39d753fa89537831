-- Which wires a module and a bundle name.
use Rattle.std.specs.Prelude.{ℕ, Bool, false, ◌||◌, ◌==◌, Option, Some, None}
use Rattle.std.specs.List.{list_any}
use Rattle.mp_records.specs.declared.ids.WireId.{WireId}
use Rattle.mp_records.specs.declared.module_record.ModuleRecord.{ModuleRecord}
use Rattle.mp_records.specs.declared.bundle_record.BundleRecord.{BundleRecord}
use Rattle.mp_records.specs.declared.ports.Input.{Input}
use Rattle.mp_records.specs.declared.ports.Output.{Output}

abbrev pub is_wire : Option WireId → ℕ → Bool
is_wire None w = false
is_wire (Some v) w = v.0 == w

-- an input or an output of the module is at the wire
abbrev pub module_names : ℕ → ModuleRecord → Bool
module_names w r = list_any (λ (i : Input). i.wire.0 == w) r.inputs || list_any (λ (o : Output). is_wire o.wire w) r.outputs

-- the wire is the bundle's request, acknowledge or payload
abbrev pub bundle_names : ℕ → BundleRecord → Bool
bundle_names w r = r.request.0 == w || r.acknowledge.0 == w || r.payload.0 == w
